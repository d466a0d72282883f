pub mod Replies
pub mod Stages
pub mod Transcript
pub mod Samples
