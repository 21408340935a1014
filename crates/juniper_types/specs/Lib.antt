pub mod ExecutorView
pub mod Stepping
