-- No tag begins where no `<` stands.
use Rattle.std.proofs.Common.{◌≡◌, true, subst}
use Rattle.std.specs.List.{list_all}
use Rattle.std.proofs.lemmas.List.{take_rest}
use Rattle.md_page.specs.Scan.{differs}
use Rattle.md_page.proofs.Finding.{from_place}
use Rattle.md_page.proofs.Passing.{to-angle, to-end}
use Rattle.md_page.proofs.scan.first_angle.Goals as goal

pub returns-in_err-run : goal.returns-in_err-run
returns-in_err-run c = λ rule.
    (let text = c.args.text.now in
    rw c.from_residual.ensures (to-end rule text c.args.at c.requires
    (subst (λ x. list_all (differs 60) x ≡ true) (take_rest text c.args.at) c.in_err-run.ensures)))

pub returns : goal.returns
returns c = λ rule.
    to-angle rule c.args.text.now c.args.at c.in_ok-run.run'
    (from_place 60 c.args.text.now c.args.at c.in_ok-run.run' c.in_ok-run.ensures)
