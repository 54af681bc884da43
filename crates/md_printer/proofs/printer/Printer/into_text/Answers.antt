-- The section comes after the text.
use Rattle.std.proofs.Common.{ℕ, List}
use Rattle.std.proofs.Common.{ap, sym, ◌∙◌}
use Rattle.md_steps.specs.State.{State}
use Rattle.md_meaning.specs.Meaning.At.{Footnote}
use Rattle.md_meaning.specs.Meaning.Layout.{laid_after}
use Rattle.md_meaning.specs.Meaning.Footnotes.{section}
use Rattle.md_text.specs.declared.options.CompileOptions.{CompileOptions}
use Rattle.md_footnotes.specs.Seen.{context_by}
use Rattle.md_printer.proofs.printer.Printer.into_text.Goals as goal

pub returns : goal.returns
returns c = λ context options-same ending-same calls-same.
    let all = c.args.self in
    let text : List ℕ → List ℕ → CompileOptions → List (List ℕ) → List Footnote → List ℕ =
    λ ending before options calls footnotes.
    laid_after ending before (section (context_by options calls) footnotes) in
    c.in_ok-push_section.ensures
    ∙ ap (λ t. text c.args.ending.now t c.args.options.now c.self.inside.footnotes.calls
    c.self.inside.footnotes.footnotes)
    (c.in_ok-text.ensures ∙ ap (λ (s : State). s.text) c.self.view_is)
    ∙ ap (λ (s : State). text c.args.ending.now all.text c.args.options.now s.calls s.footnotes)
    c.self.view_is
    ∙ ap (λ e. text e all.text c.args.options.now all.calls all.footnotes) (sym ending-same)
    ∙ ap (λ o. text context.ending all.text o all.calls all.footnotes) (sym options-same)
    ∙ ap (λ l. text context.ending all.text context.options l all.footnotes) (sym calls-same)
