-- What is before the index is plain.
use Rattle.std.proofs.Common.{◌≡◌, ◌+◌, ◌-◌, ◌≤◌, drop, length}
use Rattle.std.specs.List.{prefix_len}
use Rattle.md_reader.specs.Runs.{is_plain}
use Rattle.md_reader.proofs.run.plain_length_from.Given as goal

abbrev pub invariant-bytes : goal.invariant-bytes
invariant-bytes l =
    (l.at ≤ length l.text)
    × (prefix_len is_plain l.text ≡ l.at + prefix_len is_plain (drop l.at l.text))

abbrev pub decreases-bytes : goal.decreases-bytes
decreases-bytes l = length l.text - l.at
