pub mod Quickstart
