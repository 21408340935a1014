pub mod Answering
pub mod Using
