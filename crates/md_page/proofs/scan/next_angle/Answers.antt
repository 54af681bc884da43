-- The first `<` after what is passed.
use Rattle.md_page.proofs.Passing.{from-near}
use Rattle.md_page.proofs.scan.next_angle.Goals as goal

pub returns-else-text-near-eq60 : goal.returns-else-text-near-eq60
returns-else-text-near-eq60 c =
    from-near c.args.rule c.args.text.now c.args.at c.pass_near-near.result
    c.first_angle-else-text-near-eq60.result
    c.pass_near-near.ensures.near.0 c.pass_near-near.ensures.passed
    (c.first_angle-else-text-near-eq60.ensures c.args.rule)
