-- The pairs of the runs of a leaf: closers from left to right, each with the nearest opener (6.4,
-- and strikethrough).
use Rattle.std.specs.Prelude.{ℕ, zero, suc, Option, List, [], ◌∷◌, ◌++◌, ◌+◌, ◌-◌, ◌==◌}
use Rattle.std.specs.Prelude.{Some, None, nat_lt, slice_get, set, if◌then◌else◌}
use Rattle.md_marks.specs.declared.delimiters.Delimiter.{Delimiter}
use Rattle.md_marks.specs.declared.token.Mark.{Mark}
use Rattle.md_marks.specs.declared.token.Mark.TheVariants.{EmphasisStart, EmphasisEnd, StrongStart}
use Rattle.md_marks.specs.declared.token.Mark.TheVariants.{StrongEnd, StrikethroughStart, Nothing}
use Rattle.md_marks.specs.declared.token.Mark.TheVariants.{StrikethroughEnd}
use Rattle.md_marks.specs.declared.token.Token.{Token}
use Rattle.md_marks.specs.Emphasis.{available, may_pair, pair_width}

-- a pair of so many bytes of an opener and of a closer: the tokens of the first of them
pub record Pair : Type 0 where
  pub byte : ℕ
  pub width : ℕ
  pub opener : ℕ
  pub closer : ℕ

-- the last bytes of an opener and the first of a closer
abbrev pub pair_of : Delimiter → Delimiter → Pair
pair_of opener closer = record {
  byte = closer.byte;
  width = pair_width opener closer;
  opener = opener.end - pair_width opener closer;
  closer = closer.start;
}

-- what is left of an opener after a pair, and of a closer
abbrev pub opener_left : ℕ → Delimiter → Delimiter
opener_left width opener = record opener { end = opener.end - width }

abbrev pub closer_left : ℕ → Delimiter → Delimiter
closer_left width closer = record closer { start = closer.start + width }

-- an opener, and the runs before it
pub record Found : Type 0 where
  pub opener : Delimiter
  pub before : List Delimiter

-- the nearest opener that fits a closer, among the runs before it, the last one first
abbrev pub nearest : Delimiter → List Delimiter → Option Found
nearest closer [] = None
nearest closer (opener ∷ before) =
    if may_pair opener closer then Some (record { opener = opener; before = before })
    else nearest closer before

-- a run before others, if it has a byte without a pair
abbrev pub with_left : Delimiter → List Delimiter → List Delimiter
with_left run before = if nat_lt 0 (available run) then run ∷ before else before

-- what a closer leaves: the openers before it, the last one first; what is left of it; its pairs
pub record Closed : Type 0 where
  pub before : List Delimiter
  pub closer : Delimiter
  pub pairs : List Pair

abbrev pub unpaired : List Delimiter → Delimiter → Closed
unpaired before closer = record { before = before; closer = closer; pairs = [] }

abbrev pub paired_first : Pair → Closed → Closed
paired_first pair done = record done { pairs = pair ∷ done.pairs }

-- a closer paired as often as an opener fits; the openers between the two are passed. Each pair
-- takes a byte of it at least
abbrev pub closed : ℕ → List Delimiter → Delimiter → Closed
closed zero before closer = unpaired before closer
closed (suc steps) before closer =
    elim (if nat_lt 0 (available closer) then nearest closer before else None) [
      | None ↦ unpaired before closer
      | Some found ↦
          let width = pair_width found.opener closer in
          paired_first (pair_of found.opener closer) (closed steps
          (with_left (opener_left width found.opener) found.before) (closer_left width closer))
    ]

-- a run that closes, or else doesn't
abbrev pub run_closed : List Delimiter → Delimiter → Closed
run_closed before run = if run.closes then closed (available run) before run else unpaired before run

-- the openers after a run, which may be one of them
abbrev pub openers_after : Closed → List Delimiter
openers_after done =
    if done.closer.opens then with_left done.closer done.before else done.before

-- the pairs of runs from left to right, after these openers, the last one first
abbrev pub pairs_after : List Delimiter → List Delimiter → List Pair
pairs_after before [] = []
pairs_after before (run ∷ runs) =
    (run_closed before run).pairs ++ pairs_after (openers_after (run_closed before run)) runs

-- what a pair of so many of a byte begins, and what it ends
abbrev pub start_mark : ℕ → ℕ → Mark
start_mark byte width =
    if byte == 126 then StrikethroughStart else if width == 1 then EmphasisStart else StrongStart

abbrev pub end_mark : ℕ → ℕ → Mark
end_mark byte width =
    if byte == 126 then StrikethroughEnd else if width == 1 then EmphasisEnd else StrongEnd

-- tokens of which one has another mark
abbrev pub with_mark : Mark → ℕ → List Token → List Token
with_mark mark index tokens = elim (slice_get tokens index) [
  | None ↦ tokens
  | Some token ↦ set tokens index (record token { mark = mark })
]

-- so many tokens from an index on become part of the one before them
abbrev pub absorbed : ℕ → ℕ → List Token → List Token
absorbed zero index tokens = tokens
absorbed (suc count) index tokens = absorbed count (suc index) (with_mark Nothing index tokens)

-- a token goes on to the end of another one
abbrev pub with_end : ℕ → ℕ → List Token → List Token
with_end index last tokens = elim (slice_get tokens last) [
  | None ↦ tokens
  | Some other ↦ elim (slice_get tokens index) [
    | None ↦ tokens
    | Some token ↦ set tokens index (record token { end = other.end })
  ]
]

-- so many tokens become one with this mark
abbrev pub joined : Mark → ℕ → ℕ → List Token → List Token
joined mark index width tokens = absorbed (width - 1) (suc index)
    (with_mark mark index (with_end index (index + (width - 1)) tokens))

-- the tokens of a pair become the start and the end of a span
abbrev pub with_pair : Pair → List Token → List Token
with_pair pair tokens = joined (end_mark pair.byte pair.width) pair.closer pair.width
    (joined (start_mark pair.byte pair.width) pair.opener pair.width tokens)

abbrev pub with_pairs : List Pair → List Token → List Token
with_pairs [] tokens = tokens
with_pairs (pair ∷ pairs) tokens = with_pairs pairs (with_pair pair tokens)
