-- As many columns are skipped as there are.
use Rattle.std.proofs.Common.{ap, ◌∙◌, min, ◌≡◌, rules}
use Rattle.md_blocks.specs.Rests.{skipped_at, text_of, columns_at}
use Rattle.md_blocks.proofs.Resting.{skip_min}
use Rattle.md_blocks.proofs.position.Position.advance.Goals as goal

pub returns-clause-rest : goal.returns-clause-rest
returns-clause-rest c =
    let p = c.args.self.now in
    let text = text_of p.line.now p.at p.column p.is_in_tab in
    let left : c.min-left.result ≡ min c.args.columns (columns_at p.column text) = search rules in
    c.skip_columns-at.ensures.rest
    ∙ ap (λ n. skipped_at n p.column text) left
    ∙ skip_min c.args.columns p.column text
