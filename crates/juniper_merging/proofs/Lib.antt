mod Numbers
pub mod Tests
pub mod Grouping
pub mod Places
mod Telling
mod Passed
mod Listing
mod Told
mod Joint
mod Quiet
mod Rows
mod Looked
mod Indexed
mod Beside
mod Answered
mod OfHeads
mod Held
mod Making
mod Few
mod Distances
mod Vertices
pub mod Tables
pub mod Gathered
mod Settling
pub mod Whole
pub mod Growing
pub mod Covering
mod Numbering
mod Placing
