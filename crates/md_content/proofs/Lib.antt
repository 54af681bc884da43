-- The lemmas on documents of the grammar, from patterns to spines to whole documents: the content
-- of their nodes.
pub mod SymbolNames
pub mod Symbols
pub mod Tails
pub mod Admitted
pub mod Spots
pub mod Letters
pub mod FineNodes
pub mod LoneSymbols
pub mod Stands
pub mod Heads
pub mod LabelTexts
pub mod Referring
pub mod Leading
pub mod TextsThere
pub mod Identifiers
pub mod Resolved
pub mod Listed
pub mod Alike
pub mod LastNames
pub mod Decoding
pub mod RanksAndNumbers
pub mod Fitting
pub mod Grammatical
pub mod Underlines
