-- One iteration of the run: the remaining events, and the counts.
use Rattle.std.proofs.Common.{◌≡◌, ◌≤◌, ◌<◌, ℕ, suc, ◌+◌, true, Some, List, length, refl, sym, ap}
use Rattle.std.proofs.Common.{◌∙◌, arith}
use Rattle.std.specs.Prelude.{slice_get}
use Rattle.md_base.specs.declared.event.Event.{Event}
use Rattle.md_base.specs.declared.event.Kind.TheVariants.{Enter, Exit}
use Rattle.md_base.specs.Tree.{Forest, flatten, entering, exiting}
use Rattle.md_meaning.specs.Meaning.At.{Context}
use Rattle.md_tree.specs.Grammar.{IsChecked, IsReadAs}
use Rattle.md_steps.specs.Run.{Noticed, noticed, passes, stepped, run}
use Rattle.md_steps.specs.State.{State}
use Rattle.md_facts.proofs.Nodes.{same-document}
use Rattle.md_printer.specs.Supplies.{Supplies}
use Rattle.md_printer.specs.declared.context.Context.{Context as Supplied}
use Rattle.md_html.specs.Windows.{window}
use Rattle.md_html.specs.Stepping.{Steps, Leafs, Follows, Goes, Few}
use Rattle.md_html.specs.Fits.{fits, captured_after}
use Rattle.md_html.proofs.Alone.{alone, none_passed}
use Rattle.md_html.proofs.Fits.{fits-step}
use Rattle.md_html.proofs.FirstText.{stepped-captured}
use Rattle.md_html.proofs.Stepping.{Seen, seen, is-there, stepped-few}
use Rattle.md_html.proofs.Windows.{windows-first, windows-drop, run-passing, window-end}

module _ (at : Context) (events : List Event) (all : List Noticed) (end : ℕ) where
  -- the step at an event
  follows-step : (index next : ℕ) (event : Event) (one : Noticed) (before after : State) →
      index < end → slice_get events index ≡ Some event → slice_get all index ≡ Some one →
      next ≡ suc index + passes event one.inside → after ≡ stepped at event one.facts before →
      Follows at events all end index next before after
  follows-step index next event one before after lt got there e same =
      let skips : ℕ = passes event one.inside in
      let captured : ℕ = length before.below in
      let following : List Event = window (suc index) end events in
      let followed : List Noticed = window (suc index) end all in
      rw same (record {
        runs = sym (windows-first (λ es ts. run at 0 es ts before) events all index end event one lt
            got there ∙ run-passing at skips following followed (stepped at event one.facts before)
            ∙ windows-drop (λ es ts. run at 0 es ts (stepped at event one.facts before)) events all
            (suc index) end skips next e);
        fits = λ f.
            ap (λ n. fits 0 n (window next end events) (window next end all))
            (stepped-captured at event one.facts before)
            ∙ sym (windows-drop (fits 0 (captured_after event captured)) events all (suc index) end
            skips next e)
            ∙ fits-step captured event one following followed
            (sym (windows-first (fits 0 captured) events all index end event one lt got there) ∙ f);
        few = stepped-few at event one.facts before index next (omega (arith, e));
      })

  -- one after another
  pub follows-on : (from index next : ℕ) (first before after : State) →
      Follows at events all end from index first before →
      Follows at events all end index next before after →
      Follows at events all end from next first after
  follows-on from index next first before after earlier later = grind arith

-- the events that are skipped after a step are in the document
pub turn-within : (code : Supplied) (index : ℕ) (event : Event) (more : ℕ) (before after : State)
    (supplied : (at : Context) × Supplies code at) → IsChecked code.checked.now →
    slice_get code.checked.now.events index ≡ Some event →
    Steps code index event more before after →
    index + more < length code.checked.now.events
turn-within code index event more before after supplied checked got steps =
    let here : Seen code.checked.now checked.0 index event =
    seen code.checked.now checked.0 index event (IsReadAs.flattened checked.1) got in
    omega (arith, (steps supplied.0 here.one supplied.1 here.there).0, here.inner)

module _ (code : Supplied) (from index to : ℕ) (event : Event) (first before after : State)
    (got : slice_get code.checked.now.events index ≡ Some event)
    (goes : Goes code from index to first before) where
  pub goes-turn : (more : ℕ) → index < to → Steps code index event more before after →
      Goes code from (index + (1 + more)) to first after
  goes-turn more lt steps = record {
    follows = λ at document end supplies flat le.
        let events : List Event = code.checked.now.events in
        let all : List Noticed = noticed code.checked.now.bytes true document in
        let here : Seen code.checked.now document index event =
        seen code.checked.now document index event flat got in
        let (skips, same) = steps at here.one supplies here.there in
        follows-on at events all end from index (index + (1 + more)) first before after
        (goes.follows at document end supplies flat le)
        (follows-step at events all end index (index + (1 + more)) event here.one before after
        (omega (arith, lt, le)) got here.got (omega (arith, skips)) same);
  }

  -- the two steps at a node without children, which is printed at once
  pub goes-leaf : Leafs code index to event before after → Goes code from (index + 2) to first after
  goes-leaf leafs = record {
    follows = λ at document end supplies flat le.
        let events : List Event = code.checked.now.events in
        let all : List Noticed = noticed code.checked.now.bytes true document in
        let here : Seen code.checked.now document index event =
        seen code.checked.now document index event flat got in
        let one : Noticed = here.one in
        let twin = leafs.noticed one here.there in
        let enter : Event = entering event.name event.point in
        let exit : Event = exiting event.name leafs.exits.0.point in
        let inner : State = stepped at enter one.facts before in
        follows-on at events all end from (suc index) (index + 2) first inner after
        (follows-on at events all end from index (suc index) first before inner
        (goes.follows at document end supplies flat le)
        (follows-step at events all end index (suc index) enter one before inner
        (omega (arith, leafs.within, le))
        (is-there events index Enter event.name (event, got, leafs.enters, refl)) here.got
        (omega (arith, none_passed event.name leafs.alone one.inside)) refl))
        (follows-step at events all end (suc index) (index + 2) exit one inner after
        (omega (arith, leafs.within, le)) (is-there events (suc index) Exit event.name leafs.exits)
        (ap (λ d. slice_get (noticed code.checked.now.bytes true d) (suc index))
        (same-document document twin.0 events flat twin.1) ∙ twin.2)
        (omega arith) (leafs.left at one supplies here.there
        ∙ sym (alone event.name leafs.alone event.point at one.facts before)));
  }

-- a run that continues another run
pub goes-on : (code : Supplied) (from index next to end : ℕ) (first before after : State) →
    to ≤ end →
    Goes code from index end first before → Goes code index next to before after →
    Goes code from next end first after
goes-on code from index next to end first before after le goes on = record {
  follows = λ at document last supplies flat later.
      follows-on at code.checked.now.events (noticed code.checked.now.bytes true document) last from
      index next first before after (goes.follows at document last supplies flat later)
      (on.follows at document last supplies flat (omega (arith, le, later)));
}

-- counts stay few
pub goes-few : (code : Supplied) (from next to : ℕ) (before after : State)
    (supplied : (at : Context) × Supplies code at) → IsChecked code.checked.now →
    Goes code from next to before after → Few from before → Few next after
goes-few code from next to before after supplied checked goes few =
    (goes.follows supplied.0 checked.0 to supplied.1 (IsReadAs.flattened checked.1)
    (omega arith)).few few

-- the events up to the end are run
pub goes-through : (code : Supplied) (at : Context) (document : Forest) (from next to : ℕ)
    (before after : State) → Supplies code at → flatten document ≡ code.checked.now.events →
    to ≤ next → Goes code from next to before after →
    after ≡ run at 0 (window from to code.checked.now.events)
    (window from to (noticed code.checked.now.bytes true document)) before
goes-through code at document from next to before after supplies flat le goes =
    grind (arith, window-end)
