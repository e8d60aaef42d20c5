pub mod Asking
pub mod Plans
pub mod Told
pub mod Walks
pub mod Written
