-- Lengths of converted texts, and of texts at positions; pieces.
pub mod Pieces
pub mod Texts
pub mod Places
-- What a node prints, name by name.
pub mod PrintedTexts
pub mod Prints
-- What nodes print and what is kept of them, in one induction; the section of footnotes.
pub mod Strings
pub mod Calls
pub mod Kept
pub mod NodesShort
pub mod Forests
pub mod Sums
pub mod Sections
-- What a document of the grammar is, and its text, by what its nodes use.
pub mod Numbers
pub mod Labels
pub mod Grammar
pub mod Lengths
pub mod Units
pub mod Whole
-- What is used is bounded by what is counted: what is read, definitions, the cells of tables.
pub mod DefinitionEvents
pub mod Definitions
pub mod Links
pub mod Cells
pub mod Spined
pub mod TableRows
pub mod Heads
pub mod Bounded
