use Rattle.std.proofs.Common.{sym, ap, ◌∙◌}
use Rattle.std.specs.Prelude.{option_copied}
use Rattle.md_page.proofs.Parts.{before-found, before-none}
use Rattle.md_page.proofs.scan.before_angle.Goals as goal

pub returns-in_err-at : goal.returns-in_err-at
returns-in_err-at c =
    ap option_copied c.from_residual.ensures
    ∙ sym (before-none c.args.bytes.now c.in_err-at.ensures)

pub returns : goal.returns
returns c = sym (before-found c.args.bytes.now c.in_ok-at.at c.in_ok-at.ensures)
