pub mod Data
pub mod Notes
pub mod InputsRead
pub mod Nodes
pub mod Replies
pub mod Served
pub mod Server
pub mod Forgotten
