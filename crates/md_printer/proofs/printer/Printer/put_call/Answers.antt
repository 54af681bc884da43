-- Outside images it is shown.
use Rattle.std.proofs.Common.{not}
use Rattle.std.proofs.Common.{ap, sym, ◌∙◌}
use Rattle.md_steps.specs.Sides as sides
use Rattle.md_meaning.specs.Meaning.Layout.{laid_after, when}
use Rattle.md_printer.proofs.LinkHeads.{call-laid}
use Rattle.std.proofs.lemmas.Result.{on_ok_weaker}
use Rattle.md_printer.proofs.printer.Printer.put_call.Goals as goal

pub returns : goal.returns
returns c =
    let old = c.args.self.now in
    let pieces = sides.call_pieces c.args.options.now old.calls c.args.identifier.now in
    on_ok_weaker c.put_shown_call.result (λ e ending. e ∙ ap (λ t. record old { text = t })
    (call-laid old.text c.args.options.now old.calls c.args.identifier.now)
    ∙ ap (λ b. record old { text = laid_after ending old.text (when (not b) pieces) })
    (sym (sym c.is_in_image-is_hidden.ensures ∙ c.if-is_hidden.false))) c.put_shown_call.ensures
