-- The named character reference that a C reference encodes.
use Rattle.std.specs.Prelude.{ℕ, true, List, Option, Some}
use Rattle.std.specs.Borrow.{Bor}
use Rattle.md_base.specs.Place.{text_when}
use Rattle.md_abi.specs.Standing.{◌>>=◌}
use Rattle.md_abi.specs.declared.reference.CReference.{CReference}

-- a name and its text, both UTF-8
abbrev pub reference_of : CReference → Option (List ℕ × List ℕ)
reference_of given = do
  name ← text_when true given.name.now
  text ← text_when true given.text.now
  Some (name, text)

-- the pair of texts of two references
abbrev pub pair_of : Bor (List ℕ) × Bor (List ℕ) → List ℕ × List ℕ
pair_of pair = (pair.0.now, pair.1.now)
