-- The lemmas of this crate: zeros before a number, the layout of links, images and cells, and how a
-- call's clause implies a step.
pub mod Zeros
pub mod LinkHeads
pub mod Cells
pub mod Answering
