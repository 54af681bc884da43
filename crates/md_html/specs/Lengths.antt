-- The definitions for the law on what work counts.
pub use Rattle.md_length.specs.Lengths.{lengths, GoesForward}
