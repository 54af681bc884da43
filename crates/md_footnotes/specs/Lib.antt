-- The state of footnotes for public clauses; for the other clauses of this crate, the stored
-- entries and definitions for parts of the printed text.
pub mod Seen
pub mod Entries
pub mod Words
