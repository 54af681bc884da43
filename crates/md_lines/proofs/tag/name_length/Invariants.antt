-- The bytes so far are of the name.
use Rattle.std.proofs.Common.{◌≡◌, ◌≤◌, ◌+◌, ◌-◌, drop, length}
use Rattle.std.specs.List.{prefix_len}
use Rattle.md_lines.specs.Tags.{is_in_tag_name}
use Rattle.md_lines.proofs.tag.name_length.Given as goal

abbrev pub invariant-loop-length : goal.invariant-loop-length
invariant-loop-length l = (l.length ≤ length l.text)
    × (prefix_len is_in_tag_name l.text ≡ l.length + prefix_len is_in_tag_name (drop l.length l.text))

abbrev pub decreases-loop-length : goal.decreases-loop-length
decreases-loop-length l = length l.text - l.length
