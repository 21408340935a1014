pub mod ArgumentView
pub mod ArgumentsRead
pub mod Answered
pub mod Replies
pub mod ResolvedView
