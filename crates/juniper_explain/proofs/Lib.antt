mod Found
mod InputFields
mod Joined
mod Judging
mod Marking
mod Misusing
pub mod Moved
mod Nearing
mod PartWords
mod Reached
mod ReasonLoops
mod Reasoning
mod Repeating
mod SiteCalls
mod Telling
pub mod TellingValues
mod Undefining
pub mod Valid
mod WordNames
