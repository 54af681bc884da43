-- The bytes so far are no quote.
use Rattle.std.proofs.Common.{◌≡◌, ◌≤◌, ◌+◌, ◌-◌, drop, length}
use Rattle.std.specs.Prelude.{◌==◌, not}
use Rattle.std.specs.List.{prefix_len}
use Rattle.md_lines.proofs.tag.value_length.Given as goal

abbrev pub invariant-loop-length : goal.invariant-loop-length
invariant-loop-length l = (l.length ≤ length l.text)
    × (prefix_len (λ byte. not (byte == l.quote)) l.text
    ≡ l.length + prefix_len (λ byte. not (byte == l.quote)) (drop l.length l.text))

abbrev pub decreases-loop-length : goal.decreases-loop-length
decreases-loop-length l = length l.text - l.length
