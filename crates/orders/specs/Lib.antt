pub mod OrderParts
pub mod OrderedLists
pub mod Orders
