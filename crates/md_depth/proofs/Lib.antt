-- That the events of a document nest as its nodes.
pub mod Nodes
-- That elements nest no deeper than nodes, but for some.
pub mod Machine
pub mod Reading
pub mod Moves
pub mod SpanMoves
pub mod BlockMoves
pub mod NodeMoves
pub mod ForestMoves
pub mod Insertion
pub mod SectionMoves
pub mod WholeMoves
