pub mod Listing
pub mod Operations
pub mod GivenView
pub mod Finding
