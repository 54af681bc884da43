-- For the code alone: the runs that may be openers, and what is known of them.
use Rattle.std.specs.Prelude.{◌≡◌, ◌≤◌, ◌<◌, ℕ, suc, false, List, ◌+◌, ◌%◌, ◌==◌, ◌&&◌, nat_lt}
use Rattle.std.specs.Prelude.{get_or, length, reverse, set, take, if◌then◌else◌}
use Rattle.md_marks.specs.declared.delimiters.Delimiter.{Delimiter}
use Rattle.md_marks.specs.Emphasis.{available, is_unused, may_pair}
use Rattle.md_marks.specs.Pairs.{Found}

-- the kind of a run as a closer: runs of a kind below 14 match the same openers
abbrev pub kind_of : Delimiter → ℕ
kind_of run =
    let thirds = run.length % 3 + (if run.opens then 3 else 0) in
    if run.byte == 42 then thirds
    else if run.byte == 95 then thirds + 6
    else if run.byte == 126 && is_unused run && run.length == 1 then 12
    else if run.byte == 126 && is_unused run && run.length == 2 then 13
    else 14

abbrev pub no_run : Delimiter
no_run = record { start = 0; end = 0; length = 0; byte = 0; opens = false; closes = false }

-- an opener by its index, and those before it
abbrev pub found_at : List Delimiter → ℕ → Found
found_at openers height = record {
  opener = get_or openers height no_run;
  before = reverse (take height openers);
}

-- each has a byte without a pair
abbrev pub AreOpen : List Delimiter → Type 0
AreOpen openers = (i : ℕ) → i < length openers → 0 < available (get_or openers i no_run)

-- for each kind, so many of the openers are known to match no closer of it
pub record AreBottoms (bottoms : List ℕ) (openers : List Delimiter) : Type 0 where
  pub count : length bottoms ≡ 14
  pub within : (kind : ℕ) → get_or bottoms kind 0 ≤ length openers
  pub none : (closer : Delimiter) (i : ℕ) → i < get_or bottoms (kind_of closer) 0 →
      may_pair (get_or openers i no_run) closer ≡ false

-- the openers up to one of which this is left, without it if nothing is
abbrev pub kept_to : ℕ → Delimiter → List Delimiter → List Delimiter
kept_to height left openers =
    take (if nat_lt 0 (available left) then suc height else height) (set openers height left)
