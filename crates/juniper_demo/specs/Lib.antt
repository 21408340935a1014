pub mod DemoLine
pub mod ReadBack
