-- The printer of one text: the content of nodes, and its step at each event.
pub mod Content
pub mod State
pub mod Sides
pub mod Steps
pub mod Claim
pub mod Run
