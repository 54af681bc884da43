-- The lemmas on places in a pattern: each fits a byte, and which patterns let a spine be empty.
pub mod PlaceLemmas
-- That the pass from event to event finds what is defined of a tree: `Passing`, `Summaries` and
-- `FirstIndex`. `CommonNames`, `Opens` and `Leaves` are for the steps of the code.
pub mod Loosened
pub mod OneMoreChild
pub mod Summaries
pub mod Opens
pub mod ColumnsAdded
pub mod CountedFacts
pub mod Passing
pub mod FactLists
pub mod FirstIndex
pub mod Leaves
pub mod CommonNames
