-- Facts about a node by the index of the event that enters it. Only contracts of private functions
-- cite this.
use Rattle.std.specs.Prelude.{◌≡◌, ℕ, zero, suc, Option, Some, None, option_and_then, List}
use Rattle.std.specs.Prelude.{slice_get}
use Rattle.md_base.specs.declared.event.Name.{Name}
use Rattle.md_base.specs.declared.event.Event.{Event}
use Rattle.md_base.specs.declared.event.Position.{Position}
use Rattle.md_pattern.specs.declared.facts.Fact.{Fact}
use Rattle.md_base.specs.Tree.{Forest}
use Rattle.md_tree.specs.Rules.{place}
use Rattle.md_tree.specs.Grammar.{Handed}
use Rattle.md_tree.specs.Texts.{EntersAt}
use Rattle.md_tree.specs.Entered.{IsEnteredAt}
use Rattle.md_pattern.specs.Facts.{fact_at}

-- the event at an index enters a node
abbrev pub EntersSome : List Event → ℕ → Type 0
EntersSome events index = (name : Name) × EntersAt events index name

-- the fact of the node that the event at an index enters, after some number of tables have ended
abbrev pub IsFactAt : Handed → ℕ → Fact → Type 0
IsFactAt given index fact =
    (name : Name) (children : Forest) → EntersAt given.events index name →
    IsEnteredAt given index children → (tables : ℕ) × (fact ≡ fact_at index tables name children)

-- converts 0 to None
abbrev pub index_if : ℕ → Option ℕ
index_if zero = None
index_if (suc index) = Some (suc index)

-- the position of a node, by its two events
abbrev pub position_from : Option Event → Option Event → Option Position
position_from (Some first) (Some last) = Some (place first.point last.point)
position_from _ _ = None

-- the partner's event
abbrev pub partner_event : List Event → Option Fact → Option Event
partner_event events None = None
partner_event events (Some fact) = slice_get events fact.partner

-- the position of the node that the event at an index enters
abbrev pub position_there : List Event → List Fact → ℕ → Option Position
position_there events facts index = position_from (slice_get events index)
    (partner_event events (slice_get facts index))

-- the same, where 0 means no index
abbrev pub position_at : List Event → List Fact → ℕ → Option Position
position_at events facts index =
    option_and_then (λ there. position_there events facts there) (index_if index)

-- the position of the node that the event at an index exits
abbrev pub position_ended : List Event → List Fact → ℕ → Option Position
position_ended events facts index = position_from (partner_event events (slice_get facts index))
    (slice_get events index)
