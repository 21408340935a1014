pub mod Behind
mod ByName
mod Defaults
pub mod Growing
mod LeavingOut
mod Marked
pub mod Numbering
mod Parts
pub mod PlacesIn
pub mod Reaching
mod Ruling
mod Tests
mod Unused
pub mod Walking
pub mod WordsIn
mod Calling
mod Placing
