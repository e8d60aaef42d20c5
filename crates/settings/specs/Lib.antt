pub mod TypeTable
pub mod Meant
