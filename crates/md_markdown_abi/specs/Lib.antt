pub mod Numbers
pub mod Options
pub mod Failures
pub mod Answers
pub mod Text
pub mod Slugged
pub mod Front
pub mod Kept
