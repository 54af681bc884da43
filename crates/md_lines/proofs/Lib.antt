-- Lemmas for the scanners.
pub mod Escapes
pub mod Reading
pub mod Spaces
pub mod Parts
pub mod TagLemmas
