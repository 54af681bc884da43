-- How events are measured one after another. No contract of a call for users cites
-- these.
pub mod Counting
pub mod Nesting
pub mod Measured
pub mod Referred
