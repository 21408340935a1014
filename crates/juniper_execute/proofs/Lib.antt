pub mod Asked
mod Executing
mod Names
mod AllReplies
mod Bounds
mod Entering
mod RootGroups
mod RootPlans
pub mod SeenEntered
pub mod ToldFirsts
mod Undeclared
mod Constants
mod Lent
mod Making
