pub mod AtEach
pub mod Listing
pub mod Phases
pub mod SideBySide
mod Validating
pub mod InOrder
pub mod Misfits
