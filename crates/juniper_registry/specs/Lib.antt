pub mod DeclaredTypes
pub mod Entries
pub mod Kinds
pub mod Made
pub mod Referred
pub mod RegistryView
