pub mod Cursors
pub mod Readers
pub mod Reading
pub mod ParserViews
