-- The first line ending among some events is found event by event.
use Rattle.std.proofs.Common.{◌≡◌, ◌+◌, ◌<◌, ◌≤◌, ℕ, suc, List, [], ◌∷◌, ◌++◌, Option, ap, sym, ◌∙◌}
use Rattle.std.proofs.Common.{length, take, get_or, add-one, arith}
use Rattle.std.proofs.lemmas.Bool.{cases_Bool}
use Rattle.std.specs.Prelude.{option_map}
use Rattle.std.proofs.Math.Seq.{take-suc}
use Rattle.std.proofs.lemmas.List.{length-take-le}
use Rattle.md_base.specs.declared.event.Event.{Event}
use Rattle.md_pattern.specs.Ending.{first_index, ending_after}

one_later : (found : Option ℕ) (index : ℕ) (event : Event) →
    option_map (λ i. suc i) (ending_after found index event)
    ≡ ending_after (option_map (λ i. suc i) found) (suc index) event
one_later found index event = grind arith

first_index-append : (events : List Event) (event : Event) →
    first_index (events ++ event ∷ []) ≡ ending_after (first_index events) (length events) event
first_index-append [] event = grind (arith, cases_Bool, one_later)
first_index-append (first ∷ events) event =
    grind (arith, cases_Bool, one_later, first_index-append events event)

pub first_index-more : (events : List Event) (index : ℕ) (d : Event) (found : Option ℕ) →
    index < length events →
    found ≡ first_index (take index events) →
    ending_after found index (get_or events index d) ≡ first_index (take (index + 1) events)
first_index-more events index d found inside so_far =
    ap (λ f. ending_after f index (get_or events index d)) so_far
    ∙ ap (λ i. ending_after (first_index (take index events)) i (get_or events index d))
    (sym (length-take-le index events (before inside)))
    ∙ sym (first_index-append (take index events) (get_or events index d))
    ∙ ap first_index (sym (take-suc events index d inside))
    ∙ ap (λ i. first_index (take i events)) (sym (add-one index))
  where
    before : index < length events → index ≤ length events
    before h = omega arith
