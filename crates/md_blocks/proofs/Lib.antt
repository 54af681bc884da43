-- The lemmas on tapes, on what is trimmed, and on where HTML ends.
pub mod TapeLemmas
pub mod Trimming
pub mod Somewhere
pub mod Resting
pub mod StackLemmas
pub mod Written
pub mod StateLemmas
pub mod LineLemmas
pub mod Markers
pub mod Fences
pub mod LinkLemmas
pub mod Steps
pub mod Choices
pub mod TextBytes
pub mod Folds
pub mod Skipping
pub mod DocumentLemmas
