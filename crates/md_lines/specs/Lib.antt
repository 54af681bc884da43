-- The definitions that the contracts of the scanners cite.
pub mod Lines
pub mod Classes
pub mod Escapes
pub mod Texts
pub mod LinkParts
pub mod Reading
pub mod Tags
