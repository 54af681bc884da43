-- The code, and its tag outside images.
use Rattle.std.proofs.Common.{◌≡◌, ◌++◌, [], not, Some}
use Rattle.std.proofs.Common.{ap, ◌∙◌}
use Rattle.std.specs.Prelude.{codes, if◌then◌else◌}
use Rattle.md_steps.specs.State as states
use Rattle.md_steps.specs.Steps as steps
use Rattle.md_steps.specs.State.{State, NodeFacts}
use Rattle.md_meaning.specs.Meaning.Layout.{laid_after, said, when}
use Rattle.md_meaning.specs.Meaning.Spans.{trimmed, without_escapes}
use Rattle.std.proofs.lemmas.Result.{on_ok_weaker}
use Rattle.md_printer.proofs.printer.Printer.leave_code.Goals as goal

pub returns : goal.returns
returns c =
    let old = c.args.self.now in
    let left : State = record old {
      scope = steps.first_or states.outside old.scopes;
      scopes = steps.others_of old.scopes;
      ended = Some c.args.name;
      marker = 38;
    } in
    let came : c.ends.new.self ≡ left =
    c.ends.ensures
    ∙ ap (λ (s : State). record s { ended = Some c.args.name; marker = 38 }) c.pop_scope.ensures in
    let coded : State → State = λ s. record s {
      text = steps.first_or [] s.below
          ++ trimmed (if s.scope.in_table then without_escapes s.text else s.text);
      below = steps.others_of s.below;
    } in
    on_ok_weaker c.tag.result (λ e ending. e ending
    ∙ ap (λ (s : State). record s {
      text = laid_after ending s.text (when (not s.scope.in_image) (said (codes "</code>")));
    }) (c.in_ok-put_code.ensures ∙ ap coded came)) c.tag.ensures
