pub mod Strings
pub mod Lexing
pub mod TokenViews
pub mod Spots
