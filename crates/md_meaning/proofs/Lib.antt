-- The lemmas on meanings that other crates share: identifiers, each once, and that of no text.
pub mod Identifiers
pub mod EmptyIdentifier
pub mod Computed
