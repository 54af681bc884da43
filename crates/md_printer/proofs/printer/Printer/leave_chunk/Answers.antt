-- The line of the facts.
use Rattle.std.proofs.Common.{◌++◌, [], true, Some}
use Rattle.std.proofs.Common.{ap, ◌∙◌}
use Rattle.std.specs.Prelude.{unwrap_or}
use Rattle.md_steps.specs.State.{State}
use Rattle.md_base.specs.declared.event.Position.{Position}
use Rattle.md_base.specs.Place.{serialized_between}
use Rattle.md_text.specs.Encode.{encoded}
use Rattle.std.proofs.lemmas.Result.{on_ok_weaker}
use Rattle.md_printer.proofs.printer.Printer.leave_chunk.Goals as goal

pub returns : goal.returns
returns c =
    let old = c.args.self.now in
    let bytes = c.args.context.now.checked.now.bytes in
    let line : State → Position → State = λ s place. record s {
      text = s.text ++ encoded true (unwrap_or (serialized_between bytes place.start place.end) []);
    } in
    let ended : State = record old { ended = Some c.args.name; marker = 38; has_chunk = true } in
    on_ok_weaker c.put_line_of_code.result (λ e one there.
    e ∙ ap (λ s. line s c.place_left_at-place.result) c.ends_chunk.ensures
    ∙ ap (line ended) (c.place_left_at-place.ensures one there)) c.put_line_of_code.ensures
