pub mod Completing
pub mod Walking
