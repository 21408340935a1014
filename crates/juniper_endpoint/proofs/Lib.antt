pub mod Chosen
mod Denying
pub mod Explaining
pub mod Leaving
pub mod Looking
pub mod Refusing
pub mod Saying
pub mod Telling
