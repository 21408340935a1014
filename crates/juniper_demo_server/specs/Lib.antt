pub mod Answers
pub mod Demo
pub mod DemoSchema
pub mod DemoTypes
