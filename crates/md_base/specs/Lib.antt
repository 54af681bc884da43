-- The definitions that all crates use: `Tree` and its events, `Place`, names, identifiers and
-- references. Only the contract of `names_by_length` cites `NamesByLength`.
pub mod Identifier
pub mod Collapsed
pub mod Is
pub mod Place
pub mod Reference
pub mod References
pub mod Tree
pub mod NameTests
pub mod Children
pub mod EventNames
pub mod NamesByLength
pub mod Table
pub mod Leaves
