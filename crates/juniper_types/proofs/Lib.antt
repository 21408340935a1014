pub mod Batches
pub mod Sites
