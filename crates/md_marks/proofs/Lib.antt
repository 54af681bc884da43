pub mod CharacterLemmas
pub mod MarkBits
pub mod MarkTables
pub mod PairLemmas
