pub mod MadeLemmas
pub mod KeepingLemmas
pub mod PlainLemmas
mod ContainedLemmas
