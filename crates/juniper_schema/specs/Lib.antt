pub mod SchemaView
pub mod MadeTypes
pub mod Fitting
pub mod EntryTests
pub mod ListedTypes
pub mod Faults
pub mod Messages
pub mod Searching
