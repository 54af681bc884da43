-- The points of events.
use Rattle.std.specs.Prelude.{◌≡◌, ◌++◌, ◌∷◌, [], ℕ, List}
use Rattle.md_base.specs.declared.event.Event.{Event}
use Rattle.md_base.specs.declared.event.Name.{Name}
use Rattle.md_base.specs.declared.event.Point.{Point}
use Rattle.md_base.specs.Tree.{entering, exiting}

-- a point in the document, so many columns after the beginning of a tab
abbrev pub point_at : ℕ → ℕ → Point
point_at index columns = record { line = 1; column = 1; index = index; vs = columns }

-- a node of this name, without children, was appended to some events
abbrev pub IsLeafBehind : Name → List Event → List Event → Type 0
IsLeafBehind name before after = (start : ℕ) × (end : ℕ)
    × (after ≡ before ++ entering name (point_at start 0) ∷ exiting name (point_at end 0) ∷ [])
