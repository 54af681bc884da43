-- The meaning of a document (`Meaning`), which a reader must believe, with worked trees (`Trees`),
-- and a few definitions for contracts and lemmas about what the compiler reads (`Surroundings`,
-- `Texts`, `Places`, `FootnoteHeading`).
pub mod Surroundings
pub mod Texts
pub mod Places
pub mod Meaning
pub mod FootnoteHeading
pub mod Trees
