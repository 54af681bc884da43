-- A text with captured texts in it, and its layout in memory; the tags of links and images, and the
-- text of inline code.
pub mod Texts
pub mod Waiting
pub mod LinkHeads
pub mod Code
