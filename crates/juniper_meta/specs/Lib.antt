pub mod MetaView
pub mod BuiltInScalars
pub mod Rows
