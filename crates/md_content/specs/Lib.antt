-- The definitions of the laws on documents of the grammar: the content of nodes, and their
-- references.
pub mod Built
pub mod Labels
pub mod References
pub mod Underlined
