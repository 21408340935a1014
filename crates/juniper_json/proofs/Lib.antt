pub mod Floatless
pub mod Members
pub mod Refused
pub mod Scalars
pub mod Sending
mod Ints
mod Made
mod Put
mod RefusedValues
mod Taken
