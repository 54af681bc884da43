-- What is printed after some of a document's events, and how long the whole text is then.
use Rattle.std.proofs.Common.{◌≡◌, ◌≤◌, ◌<◌, ℕ, true, List, [], length, refl, sym, ap, ◌∙◌, arith}
use Rattle.md_base.specs.declared.event.Event.{Event}
use Rattle.md_base.specs.Tree.{Forest, flatten}
use Rattle.md_meaning.specs.Meaning.At.{Context}
use Rattle.md_meaning.specs.Meaning.Footnotes.{section}
use Rattle.md_meaning.specs.Meaning.Layout.{laid_after}
use Rattle.md_steps.specs.Run.{Noticed, noticed, run}
use Rattle.md_steps.specs.State.{State}
use Rattle.md_steps.specs.Steps.{beginning}
use Rattle.md_steps.proofs.Running.{noticed-length}
use Rattle.md_printer.specs.Supplies.{Supplies}
use Rattle.md_printer.specs.declared.context.Context.{Context as Supplied}
use Rattle.md_html.specs.Windows.{window}
use Rattle.md_html.specs.Stepping.{Follows, Goes}
use Rattle.md_html.specs.Fits.{fits}
use Rattle.md_html.specs.Printed.{IsPrinted, IsPrintedOver, IsRun, IsRunOver}
use Rattle.md_html.proofs.Windows.{windows-all, window-end}
use Rattle.md_html.proofs.FirstText.{outermost, laid-grows, run-grows}
use Rattle.md_html.proofs.Fits.{fits-all}

module _ (code : Supplied) (index count : ℕ) (state : State)
    (all : count ≡ length code.checked.now.events)
    (goes : Goes code 0 index count beginning state) where
  module _ (at : Context) (document : Forest) (supplies : Supplies code at)
      (flat : flatten document ≡ code.checked.now.events) where
    abbrev events : List Event
    events = code.checked.now.events

    abbrev seen : List Noticed
    seen = noticed code.checked.now.bytes true document

    abbrev whole : State
    whole = run at 0 (flatten document) (noticed at.bytes true document) beginning

    follows : Follows at events seen count 0 index beginning state
    follows = goes.follows at document count supplies flat (omega arith)

    same_count : count ≡ length seen
    same_count =
        omega (
          arith,
          all,
          ap (λ es. length es) flat,
          noticed-length code.checked.now.bytes true document,
        )

    -- going on to the last event is as going over all of them
    goes-whole : run at 0 (window index count events) (window index count seen) state ≡ whole
    goes-whole =
        follows.runs
        ∙ windows-all (λ es ts. run at 0 es ts beginning) events seen count all same_count
        ∙ ap (λ es. run at 0 es seen beginning) (sym flat)
        ∙ ap (λ bytes. run at 0 (flatten document) (noticed bytes true document) beginning)
        (sym supplies.bytes)

    fits-on : fits 0 (length state.below) (window index count events) (window index count seen)
        ≡ true
    fits-on =
        follows.fits (windows-all (λ es ts. fits 0 0 es ts) events seen count all same_count
        ∙ ap (λ es. fits 0 0 es seen) (sym flat) ∙ fits-all code.checked.now.bytes document)

  -- no event is left
  pub whole-run : count ≤ index → IsRun code state
  whole-run le = λ at document supplies flat.
      sym (window-end at code.checked.now.events (noticed code.checked.now.bytes true document)
      index count state le) ∙ goes-whole at document supplies flat

  -- a text that is longer than this, where none is captured, makes the whole one longer
  pub longer-run : (limit : ℕ) → (state.below ≡ []) × (limit < length state.text) →
      IsRunOver code limit
  longer-run limit long = λ at document supplies flat.
      let shown : length (outermost state.text state.below) ≡ length state.text =
      ap (λ b. length (outermost state.text b)) long.0 in
      omega (
        arith,
        shown,
        long.1,
        run-grows at 0 (window index count code.checked.now.events)
            (window index count (noticed code.checked.now.bytes true document)) state
            (fits-on at document supplies flat),
        ap (λ (s : State). length s.text) (goes-whole at document supplies flat),
      )

module _ (code : Supplied) where
  -- the text of this state with the section of footnotes
  pub printed : (after : State) (text : List ℕ) → IsRun code after →
      ((at : Context) → at.options ≡ code.options.now → at.ending ≡ code.ending.now →
      at.calls ≡ after.calls →
      text ≡ laid_after at.ending after.text (section at after.footnotes)) →
      IsPrinted code text
  printed after text ran says = record {
    is = λ at document supplies flat.
        says (record at { calls = after.calls }) supplies.options supplies.ending refl
        ∙ ap (λ (s : State). laid_after at.ending s.text
        (section (record at { calls = s.calls }) s.footnotes)) (ran at document supplies flat);
  }

  -- with it a text is no shorter
  pub longer-text : (limit : ℕ) → IsRunOver code limit → IsPrintedOver code limit
  longer-text limit long = grind (arith, laid-grows)
