-- What is before the line, and the lines from it on, are front matter as the document is.
use Rattle.std.proofs.Common.{◌≡◌, ◌-◌, ◌≤◌, drop, length, take}
use Rattle.md_blocks.specs.Documents as documents
use Rattle.md_blocks.specs.Documents.{front_closed, lines_of}
use Rattle.md_blocks.proofs.preamble.front_matter.Given as goal

abbrev pub invariant-lines : goal.invariant-lines
invariant-lines l = record {
  within : l.from ≤ length l.bytes;
  left : front_closed (take l.from l.bytes) (lines_of (drop l.from l.bytes))
      ≡ documents.front_matter l.bytes;
}

abbrev pub decreases-lines : goal.decreases-lines
decreases-lines l = length l.bytes - l.from
