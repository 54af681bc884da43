-- A node of a common name ends no table and no definition, and its fact needs no table.
use Rattle.std.proofs.Common.{arith, ◌≡◌, ℕ, Bool, true, List, append-nil}
use Rattle.md_base.specs.declared.event.Name.{Name}
use Rattle.md_pattern.specs.declared.summary.Summary.{Summary}
use Rattle.md_pattern.specs.Columns.{Collected, columns_exited}
use Rattle.md_pattern.specs.Facts.{is_common, definitions_with}

pub common-columns :
    (name : Name) (own : Summary) (collects : Bool) (columns : Collected) → is_common name ≡ true →
    columns ≡ columns_exited name own collects columns
common-columns name own collects columns common = grind arith

pub common-definitions :
    (name : Name) (entry : ℕ) (definitions : List ℕ) → is_common name ≡ true →
    definitions ≡ definitions_with name entry definitions
common-definitions name entry definitions common = grind (arith, append-nil)
