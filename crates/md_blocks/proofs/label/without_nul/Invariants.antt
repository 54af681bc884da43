-- What is written, and what is left.
use Rattle.std.proofs.Common.{◌≡◌, ◌++◌, drop}
use Rattle.md_blocks.specs.LinkDefinitions.{printed}
use Rattle.md_blocks.proofs.label.without_nul.Given as goal

abbrev pub invariant-loop-byte : goal.invariant-loop-byte
invariant-loop-byte l = l.text.items ++ printed (drop l.byte-index l.label) ≡ printed l.label
