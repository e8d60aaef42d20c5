pub mod Answers
pub mod Handling
pub mod Judging
pub mod Queries
pub mod Replies
pub mod Taking
