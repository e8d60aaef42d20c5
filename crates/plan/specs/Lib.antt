pub mod Answers
pub mod Frequencies
pub mod Inner
pub mod Numbers
