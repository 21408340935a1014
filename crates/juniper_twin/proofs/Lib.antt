pub mod Additions
pub mod Answering
pub mod Depths
pub mod FilledKeys
pub mod NodeSlices
pub mod Occurrences
pub mod PreparedReplies
pub mod Turns
