pub mod Demands
pub mod Judging
pub mod StandardReply
