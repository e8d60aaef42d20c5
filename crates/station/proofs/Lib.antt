pub mod AnswerLaws
pub mod CopyLaws
pub mod QueryLaws
pub mod ReplyLaws
pub mod StandardReply
pub mod TakeLaws
