-- How deep events, nodes and elements nest.
pub mod Depth
pub mod Levels
