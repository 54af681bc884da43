-- The definitions that the printer's code uses besides the steps: its surroundings, its input, and
-- texts that it prints in parts.
pub mod View
pub mod Supplies
pub mod Parts
