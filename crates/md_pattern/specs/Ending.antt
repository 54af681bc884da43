-- Where the first line ending is among events.
use Rattle.std.specs.Prelude.{ℕ, suc, Bool, true, false, ◌&&◌, if◌then◌else◌, List, [], ◌∷◌, Option}
use Rattle.std.specs.Prelude.{Some, None, option_map}
use Rattle.md_base.specs.declared.event.Event.{Event}
use Rattle.md_base.specs.declared.event.Kind.{Kind}
use Rattle.md_base.specs.declared.event.Kind.TheVariants.{Enter, Exit}
use Rattle.md_base.specs.NameTests.{is_line_ending}

abbrev pub is_exit : Kind → Bool
is_exit Enter = false
is_exit Exit = true

-- an event exits a line ending, blank or not
abbrev pub exits_line_ending : Event → Bool
exits_line_ending event = is_exit event.kind && is_line_ending event.name

-- the index of the first such event
abbrev pub first_index : List Event → Option ℕ
first_index [] = None
first_index (event ∷ events) =
    if exits_line_ending event then Some 0 else option_map (λ index. suc index) (first_index events)

-- the same after one more event, at an index
abbrev pub ending_after : Option ℕ → ℕ → Event → Option ℕ
ending_after None index event = if exits_line_ending event then Some index else None
ending_after (Some found) index event = Some found
