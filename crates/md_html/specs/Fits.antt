-- Whether each captured text that some events end has begun before, so that no earlier printed text
-- is removed.
use Rattle.std.specs.Prelude.{ℕ, zero, suc, ◌-◌, Bool, true, false, ◌&&◌, not, if◌then◌else◌, List}
use Rattle.std.specs.Prelude.{[], ◌∷◌}
use Rattle.md_base.specs.declared.event.Event.{Event}
use Rattle.md_base.specs.declared.event.Kind.TheVariants.{Enter, Exit}
use Rattle.md_steps.specs.Run.{Noticed, passes}
use Rattle.md_steps.specs.State.{captures}
use Rattle.md_steps.specs.Steps.{is_passed}
use Rattle.md_measure.specs.Nesting.{is_none}

-- an event begins a captured text, or ends one
abbrev pub begins : Event → Bool
begins event =
    elim event.kind [ Enter ↦ captures event.name && not (is_passed event.name) | Exit ↦ false ]

abbrev pub ends : Event → Bool
ends event = elim event.kind [ Enter ↦ false | Exit ↦ captures event.name ]

-- with so many captured texts, an event ends none, or one of them
abbrev pub may_end : Event → ℕ → Bool
may_end event zero = not (ends event)
may_end event (suc captured) = true

-- how many texts are captured after an event
abbrev pub captured_after : Event → ℕ → ℕ
captured_after event captured =
    if begins event then suc captured else (if ends event then captured - 1 else captured)

-- so at each of some events, after so many that are skipped, and at their end no text is captured
abbrev pub fits : ℕ → ℕ → List Event → List Noticed → Bool
fits passed_over captured [] seen = is_none captured
fits passed_over captured (event ∷ events) [] = false
fits (suc left) captured (event ∷ events) (one ∷ seen) = fits left captured events seen
fits zero captured (event ∷ events) (one ∷ seen) =
    may_end event captured
    && fits (passes event one.inside) (captured_after event captured) events seen
