-- Lemmas.
pub mod Rows
pub mod PairedRows
pub mod Nodes
pub mod Noticed
pub mod EndLemmas
pub mod FoundLemmas
pub mod Labelled
pub mod Undefined
pub mod Leading
pub mod Own
