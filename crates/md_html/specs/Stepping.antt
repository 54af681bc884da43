-- The step at one event, as the steps over the events do it, and the steps at several.
use Rattle.std.specs.Prelude.{◌≡◌, ◌<◌, ◌≤◌, ℕ, suc, Bool, true, false, List, length}
use Rattle.md_base.specs.declared.event.Event.{Event}
use Rattle.md_base.specs.declared.event.Kind.TheVariants.{Enter}
use Rattle.md_meaning.specs.Meaning.At.{Context}
use Rattle.md_base.specs.Tree.{Forest, flatten}
use Rattle.md_steps.specs.Run.{Noticed, noticed, run, stepped, passes}
use Rattle.md_tree.specs.Texts.{ExitsAt}
use Rattle.md_steps.specs.State.{State}
use Rattle.md_facts.specs.NodeFacts.{IsNoticedAt}
use Rattle.md_printer.specs.Supplies.{Supplies, Leaves, is_alone}
use Rattle.md_printer.specs.declared.context.Context.{Context as Supplied}
use Rattle.md_html.specs.Windows.{window}
use Rattle.md_html.specs.Fits.{fits}

-- the cells and the fences so far are no more than this
abbrev pub Few : ℕ → State → Type 0
Few most state = (state.cells ≤ most) × (state.fences ≤ most)

-- the step at an event, after which so many events are skipped
abbrev pub Steps : Supplied → ℕ → Event → ℕ → State → State → Type 0
Steps code index event more before after =
    (at : Context) (one : Noticed) → Supplies code at → IsNoticedAt code.checked.now index one →
    (more ≡ passes event one.inside) × (after ≡ stepped at event one.facts before)

-- the next event exits the node that an event enters, and its entry changes nothing
pub record Leafs (code : Supplied) (index to : ℕ) (event : Event)
    (before after : State) : Type 0 where
  pub enters : event.kind ≡ Enter
  pub exits : ExitsAt code.checked.now.events (suc index) event.name
  pub within : suc index < to
  pub alone : is_alone event.name ≡ true
  pub noticed : (one : Noticed) → IsNoticedAt code.checked.now index one →
      IsNoticedAt code.checked.now (suc index) one
  pub left : Leaves code index event.name before after

-- such a node is printed, or nothing
pub record IsLeaf (code : Supplied) (index to : ℕ) (event : Event)
    (before after : State) (done : Bool) : Type 0 where
  pub left : done ≡ true → Leafs code index to event before after
  pub same : done ≡ false → after ≡ before

-- up to an end, continuing from one event has the same result as continuing from an earlier one; if
-- each captured text that ended there had begun, the same holds here; and counts that were few are
pub record Follows (at : Context) (events : List Event) (seen : List Noticed)
    (end from next : ℕ) (before after : State) : Type 0 where
  pub runs : run at 0 (window next end events) (window next end seen) after
      ≡ run at 0 (window from end events) (window from end seen) before
  pub fits : fits 0 (length before.below) (window from end events) (window from end seen) ≡ true →
      fits 0 (length after.below) (window next end events) (window next end seen) ≡ true
  pub few : Few from before → Few next after

-- the same up to any end at or after `to`
pub record Goes (code : Supplied) (from next to : ℕ) (before after : State) : Type 0 where
  pub follows : (at : Context) (document : Forest) (end : ℕ) → Supplies code at →
      flatten document ≡ code.checked.now.events → to ≤ end →
      Follows at code.checked.now.events (noticed code.checked.now.bytes true document) end from
      next before after
