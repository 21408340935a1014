mod Answered
mod Declared
mod Executed
mod Lines
mod ReadingBack
mod Request
mod Served
mod Valid
