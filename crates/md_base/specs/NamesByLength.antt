-- The names of events by their length; only the contract of `names_by_length` cites it.
use Rattle.std.specs.Prelude.{◌≡◌, ℕ, suc, Bool, ◌==◌, List, [], ◌∷◌, length, filter}
use Rattle.std.specs.Borrow.{Bor}
use Rattle.md_base.specs.declared.event.Name.{Name}
use Rattle.md_base.specs.EventNames.{event_names}
use Rattle.md_base.specs.Table.{entries_of}

abbrev pub is_long : ℕ → List ℕ × Name → Bool
is_long size entry = length entry.0 == size

abbrev pub names_of_length : ℕ → List (List ℕ × Name)
names_of_length size = filter (is_long size) event_names

-- the tables hold the names of this length, of the next one, and so on
abbrev pub IsByLength : List (Bor (List (Bor (List ℕ) × Name))) → ℕ → Type 0
IsByLength [] size = Unit {0}
IsByLength (table ∷ tables) size =
    (entries_of table.now ≡ names_of_length size) × IsByLength tables (suc size)
