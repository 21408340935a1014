pub mod ArgumentMembers
mod ListReplies
pub mod Resolutions
mod Sums
