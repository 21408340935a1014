pub mod Awaited
pub mod Defaults
pub mod Lists
pub mod Placeholders
pub mod Registered
pub mod Plain
pub mod Tables
