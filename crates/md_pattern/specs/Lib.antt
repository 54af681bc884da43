-- The class of each name in the grammar, and the symbols that may occur on a spine: read
-- `Standing`, `Pattern`, `Spine` and `Shape`. `Steps` defines it symbol by symbol, as the code
-- reads it.
pub mod Standing
pub mod Pattern
pub mod Spine
pub mod Shape
pub mod Steps
pub mod Places
-- The inferred facts about a node. `Looseness`, `Alignments`, `Partners` and `Ending` define them
-- by the rules; `Summary`, `Columns`, `Seeking` and `Facts` event by event, as the pass finds them;
-- `FactWords` as it stores them.
pub mod Looseness
pub mod Blanks
pub mod Alignments
pub mod Summary
pub mod Columns
pub mod Seeking
pub mod Ending
pub mod Facts
pub mod FactWords
pub mod Partners
