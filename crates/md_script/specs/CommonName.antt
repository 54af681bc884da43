-- The first space among sixteen bytes, and the rows of names shorter than sixteen bytes; only
-- private contracts cite it.
use Rattle.std.specs.Prelude.{◌≡◌, ℕ, ◌<◌, Bool, true, false, ◌==◌, List, length, map, Option, Some}
use Rattle.std.specs.Prelude.{slice_index}
use Rattle.std.specs.List.{list_all, before_first}
use Rattle.md_base.specs.declared.event.Name.{Name}
use Rattle.md_base.specs.EventNames.{event_names}
use Rattle.md_base.specs.Table.{listed}
use Rattle.md_script.specs.Line.{is_space}

-- so many bytes precede the first space
pub record IsFirstSpace (bytes : List ℕ) (size : ℕ) : Type 0 where
  pub none : (k : ℕ) → k < size → is_space (slice_index bytes k) ≡ false
  pub there : slice_index bytes size ≡ 32

-- a space is at this index
pub record IsSpaceAt (bytes : List ℕ) (place : ℕ) : Type 0 where
  pub inside : place < length bytes
  pub there : slice_index bytes place ≡ 32

-- the name of a row's text up to its first space
abbrev pub spelled : List ℕ × Name → Option Name
spelled row = listed event_names (before_first is_space row.0)

abbrev pub named : List ℕ × Name → Option Name
named row = Some row.1

abbrev pub is_full : List ℕ × Name → Bool
is_full row = length row.0 == 16

-- each row has sixteen bytes, and the name of its text
pub record AreRows (rows : List (List ℕ × Name)) : Type 0 where
  pub names : map spelled rows ≡ map named rows
  pub sizes : list_all is_full rows ≡ true
