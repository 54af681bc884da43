-- One event more, for each measure; what a measure says of a document; what it reads again.
pub mod Measuring
pub mod Nesting
pub mod Summary
pub mod Referring
