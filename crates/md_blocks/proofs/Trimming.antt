-- What `trim_start` returns up to the end of the bytes.
use Rattle.std.proofs.Common.{ℕ, List, ◌≡◌, ◌≤◌, ◌<◌, ◌+◌, length, drop, inl, inr, arith}
use Rattle.std.proofs.lemmas.Bool.{cases_lt}
use Rattle.std.proofs.lemmas.List.{length-drop}
use Rattle.std.proofs.lemmas.List.Sums.{prefix_len-le-length}
use Rattle.md_lines.specs.Lines.{is_blank}
use Rattle.md_blocks.specs.Leaves.{blanks}

-- it skips all spaces and tabs
pub trimmed : (line : List ℕ) (from at : ℕ) → from ≤ at → at ≤ from + blanks (drop from line)
    → (at < length line → at ≡ from + blanks (drop from line))
    → at ≡ from + blanks (drop from line)
trimmed line from at after none_skipped first = elim (cases_lt at (length line)) [
  | inl before ↦ first before
  | inr whole ↦ omega (
    arith,
    after,
    none_skipped,
    whole,
    prefix_len-le-length is_blank (drop from line),
    length-drop from line,
  )
]
