-- The bytes so far are white space.
use Rattle.std.proofs.Common.{◌≡◌, take, true}
use Rattle.std.specs.List.{list_all}
use Rattle.md_safe.specs.Contents.{is_space}
use Rattle.md_reader.proofs.content.is_white.Given as goal

abbrev pub invariant-loop-byte : goal.invariant-loop-byte
invariant-loop-byte l = list_all is_space (take l.byte-index l.text) ≡ true
