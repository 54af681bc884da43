-- The underline of the facts.
use Rattle.std.proofs.Common.{◌++◌, Bool, Some}
use Rattle.std.proofs.Common.{refl, ap, sym, ◌∙◌}
use Rattle.std.specs.Prelude.{codes, if◌then◌else◌}
use Rattle.md_base.specs.declared.event.Name.TheVariants as names
use Rattle.md_steps.specs.State.{State}
use Rattle.md_meaning.specs.Meaning.Layout.{laid_after, said, on_own_line}
use Rattle.md_base.specs.declared.event.Position.{Position}
use Rattle.md_meaning.specs.Meaning.Blocks.{heading_tag}
use Rattle.md_meaning.specs.Meaning.Spans.{is_at}
use Rattle.std.proofs.lemmas.Result.{on_ok_weaker}
use Rattle.md_printer.proofs.Answering.{leaves-by}
use Rattle.md_printer.proofs.printer.Printer.leave_underline.Goals as goal

pub returns : goal.returns
returns c =
    let old = c.args.self.now in
    let code = c.args.context.now in
    let place = c.place_left_at-place.result in
    let heading : State → Bool → State = λ s dashed. record s {
      text = laid_after code.ending.now s.text
          (on_own_line (heading_tag (codes "<h") (if dashed then 2 else 1))
          ++ (said s.heading ++ said (heading_tag (codes "</h") (if dashed then 2 else 1))));
    } in
    let ended : State =
    record old { ended = Some names.HeadingSetextUnderlineSequence; marker = 38 } in
    on_ok_weaker c.put_setext.result
    (λ e. leaves-by code c.args.index names.HeadingSetextUnderlineSequence
    names.HeadingSetextUnderlineSequence old c.put_setext.new.self refl
    (λ context one supplies there.
    e ∙ ap (λ s. heading s c.is_dash_at.result) c.ends.ensures
    ∙ ap (heading ended) (c.is_dash_at.ensures
    ∙ ap (λ bytes. is_at 45 bytes place.start.index) (c.bytes.ensures ∙ sym supplies.bytes)
    ∙ ap (λ (p : Position). is_at 45 context.bytes p.start.index)
    (c.place_left_at-place.ensures one there)))) c.put_setext.ensures
