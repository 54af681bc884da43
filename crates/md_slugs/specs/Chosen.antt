-- Ids that are chosen for headings. Only contracts inside this crate cite this.
use Rattle.std.specs.Prelude.{◌≡◌, ℕ, false, IsTrue, List, ◌∷◌, ◌++◌, map}
use Rattle.std.specs.Fmt.{decimal}
use Rattle.md_text.specs.Ids.{are_distinct}
use Rattle.md_page.specs.GivenIds.{is_among, written_id}

-- an id followed by a hyphen and a number
abbrev pub numbered : List ℕ → ℕ → List ℕ
numbered id number = id ++ (45 ∷ decimal number)

-- no two ids are written alike, and none like one that is taken
abbrev pub AreChosen : List (List ℕ) → List (List ℕ) → Type 0
AreChosen taken ids = IsTrue (are_distinct (map written_id ids))
    × ((written : List ℕ) → IsTrue (is_among written taken)
    → is_among written (map written_id ids) ≡ false)
