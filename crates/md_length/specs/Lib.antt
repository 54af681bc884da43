-- How much there is to read, to print, and to use again, and the bounds that these give.
pub mod Longest
pub mod Work
pub mod Lengths
pub mod Reuse
pub mod Bound
-- Only proofs use these.
pub mod Costs
pub mod Uses
pub mod Sound
