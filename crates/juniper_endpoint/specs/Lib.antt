pub mod Explained
pub mod Lines
pub mod Looks
pub mod Modes
pub mod Replied
pub mod RequestLines
