use Rattle.std.proofs.Common.{sym, ap, ◌∙◌}
use Rattle.md_page.specs.Scan.{past_angle}
use Rattle.md_page.proofs.HeadingTexts.{past-run, past-none}
use Rattle.md_page.proofs.headings.past_angle.Goals as goal

pub returns-in-Some-clause-value : goal.returns-in-Some-clause-value
returns-in-Some-clause-value c =
    let parts = c.in-Some.ensures.parts in
    sym (ap past_angle parts.0 ∙ past-run c.in-Some.field-0-0.now c.in-Some.after.now parts.1)

pub returns-in-None-clause-value : goal.returns-in-None-clause-value
returns-in-None-clause-value c = sym (past-none c.args.text.now c.in-None.ensures.parts)
