pub mod Deciding
mod Joining
pub mod Lists
mod Repeated
mod Sorted
pub mod Variables
mod FragmentNames
mod Testing
mod Reaching
mod Searching
mod Weights
mod Looking
mod ByName
mod Grouping
mod Ruling
pub mod Taking
mod Rounds
mod Counted
pub mod FieldRepeats
mod Known
mod NamesBefore
mod Adding
mod Bounding
mod Chains
mod Keeping
mod Measuring
mod Operations
mod Turns
