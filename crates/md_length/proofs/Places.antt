-- How long what is read at a place is.
use Rattle.std.proofs.Common.{ℕ, suc, ◌+◌, ◌-◌, ◌≤◌, List, [], ◌∷◌, length, arith, lit≤, unwrap_or}
use Rattle.std.specs.Prelude.{slice_range}
use Rattle.std.proofs.lemmas.Grind.{common_steps}
use Rattle.std.proofs.lemmas.Bool.Decides.{nat_tests}
use Rattle.std.proofs.lemmas.List.{length-replicate}
use Rattle.md_base.specs.declared.event.Point.{Point}
use Rattle.md_base.specs.Place.{bytes_between, text_between, serialized_between, label_between}
use Rattle.md_base.specs.Reference.{named, decoded}
use Rattle.md_length.specs.Costs.{span}
use Rattle.md_length.specs.Longest.{longest}
use Rattle.md_length.proofs.Pieces.{sizes, bytes-append}
use Rattle.md_length.proofs.Texts.{character-short}

range-short : (bytes : List ℕ) (from to : ℕ) → length (slice_range bytes from to) ≤ to - from
range-short bytes from to = grind (arith, common_steps)

between-short : (bytes : List ℕ) (start end : Point) →
    length (bytes_between bytes start end) ≤ suc (span start end)
between-short bytes start end = grind (arith, range-short, nat_tests)

-- the text of a node, with the spaces of tabs
pub text-short : (bytes : List ℕ) (start end : Point) →
    length (unwrap_or (text_between bytes start end) []) ≤ suc (span start end)
text-short bytes start end = omega (sizes, between-short bytes start end)

pub serialized-short : (bytes : List ℕ) (start end : Point) →
    length (unwrap_or (serialized_between bytes start end) []) ≤ 8 + span start end
serialized-short bytes start end =
    grind (arith, nat_tests, bytes-append, length-replicate, between-short)

-- a label
pub label-short : (bytes : List ℕ) (start end : Point) →
    length (unwrap_or (label_between bytes start end) []) ≤ span start end
label-short bytes start end = omega (sizes, range-short bytes start.index end.index)

-- ---- references
named-short : (names : List (List ℕ × List ℕ)) (name : List ℕ) →
    length (unwrap_or (named names name) []) ≤ longest names
named-short [] name = lit≤ tt
named-short (entry ∷ names) name = grind (arith, named-short names name)

-- the text of a reference
pub decoded-short : (names : List (List ℕ × List ℕ)) (marker : ℕ) (value : List ℕ) →
    length (unwrap_or (decoded names marker value) []) ≤ 4 + longest names
decoded-short names marker value =
    omega (sizes, named-short names value, character-short)
