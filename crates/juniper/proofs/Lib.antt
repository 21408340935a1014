mod Bounded
mod Choosing
pub mod Composing
pub mod Messages
mod VariableValues
pub mod ToldFirsts
mod SeenFailures
mod FullOutcomes
pub mod Headlines
mod Objecting
mod ManyReplies
mod StepsLeft
pub mod Ending
mod AskedFields
pub mod RootOutcomes
pub mod Asking
pub mod RequestErrorEquality
