-- Ids that are chosen for headings: definitions of this crate, which no public contract cites.
pub mod Chosen
