pub mod OwnNames
pub mod Scripts
