-- The lemmas on derived `==`, identifiers, references, padded slices, ASCII and cases that can't
-- be. Other crates use some.
pub mod EnumLemmas
pub mod IdentifierLemmas
pub mod CollapsedLemmas
pub mod FoldLemmas
pub mod ReferenceLemmas
pub mod Sorting
pub mod SpaceLemmas
pub mod AsciiLemmas
pub mod Lies
