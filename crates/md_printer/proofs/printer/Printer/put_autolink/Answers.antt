-- The text of the facts.
use Rattle.std.proofs.Common.{rules, ◌++◌, ℕ, List, true}
use Rattle.std.proofs.Common.{None, ap, sym, ◌∙◌}
use Rattle.std.specs.Prelude.{if◌then◌else◌}
use Rattle.md_steps.specs.State.{State}
use Rattle.md_meaning.specs.Meaning.Layout.{laid_after, said}
use Rattle.md_text.specs.declared.options.CompileOptions.{CompileOptions}
use Rattle.md_text.specs.Encode.{encoded}
use Rattle.md_meaning.specs.Meaning.Layout.{Piece}
use Rattle.md_meaning.specs.Meaning.Media.{anchor}
use Rattle.md_meaning.specs.Meaning.At.{text_in}
use Rattle.std.proofs.lemmas.Result.{on_ok_weaker}
use Rattle.md_printer.proofs.printer.Printer.put_autolink.Goals as goal

pub returns-then-plain : goal.returns-then-plain
returns-then-plain c = search rules

pub returns : goal.returns
returns c =
    let old = c.args.self.now in
    let link : CompileOptions → List ℕ → List Piece = λ options text.
    anchor options (record { destination = c.args.prefix.now ++ text; title = None })
    (encoded true text) in
    on_ok_weaker c.put_anchor.result (λ e all one supplies there.
    let after : List Piece → State = λ pieces. record old {
      text = laid_after all.ending old.text pieces;
    } in
    let text = text_in all.bytes one.facts.place in
    e all.ending
    ∙ ap (λ t. after (link c.args.context.now.options.now t)) (c.text_left_at-text.ensures one there
    ∙ ap (λ bytes. text_in bytes one.facts.place) (sym supplies.bytes))
    ∙ ap (λ o. after (link o text)) (sym supplies.options)
    ∙ ap (λ b. after (if b then said (encoded true text) else link all.options text))
    (sym c.if-plain.false)) c.put_anchor.ensures
