-- Proofs about URLs.
pub mod Cuts
pub mod Paths
