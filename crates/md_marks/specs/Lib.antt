-- The definitions that the contracts of runs of marks, of characters and of bare links cite.
pub mod BareLinks
pub mod Characters
pub mod Emphasis
pub mod NextMark
pub mod Openers
pub mod Pairs
