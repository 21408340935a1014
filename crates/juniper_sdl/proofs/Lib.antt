pub mod Constants
pub mod Faultless
pub mod Lists
pub mod Reading
pub mod ReadValues
pub mod SdlRows
pub mod Spelled
pub mod SpelledSchemas
