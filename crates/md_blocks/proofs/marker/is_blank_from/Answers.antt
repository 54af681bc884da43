-- What is trimmed is all that is blank.
use Rattle.std.proofs.Common.{◌≡◌, ◌≤◌, ◌<◌, ◌+◌, ℕ, List, length, nat_eq, inl, inr, ap, ◌∙◌, arith}
use Rattle.std.proofs.Math.Nat.{eq-or-lt_of_le}
use Rattle.std.specs.List.{prefix_len}
use Rattle.std.proofs.lemmas.List.{take_rest}
use Rattle.std.proofs.lemmas.List.Sums.{prefix_len-le-length}
use Rattle.md_lines.specs.Lines.{is_blank}
use Rattle.md_blocks.specs.Marks.{is_blank_text}
use Rattle.md_blocks.proofs.marker.is_blank_from.Goals as goal

all-blank : (n : ℕ) (text : List ℕ) → n ≤ length text → n ≤ 0 + prefix_len is_blank text
    → (n < length text → n ≡ 0 + prefix_len is_blank text)
    → nat_eq n (length text) ≡ is_blank_text text
all-blank n text within blank first =
    ap (λ m. nat_eq m (length text)) (elim (eq-or-lt_of_le within) [
      | inl whole ↦ omega (arith, whole, blank, prefix_len-le-length is_blank text)
      | inr part ↦ omega (arith, first part)
    ])

pub returns-in-Some : goal.returns-in-Some
returns-in-Some c =
    let line = c.args.line.now in
    let trimmed = c.trim_start.ensures in
    all-blank c.trim_start.result c.in-Some.rest.now (trimmed.within (omega arith))
    trimmed.none_skipped trimmed.first
    ∙ ap is_blank_text (c.in-Some.ensures.lookup.0.2 ∙ take_rest line c.args.from)
