-- The rest is that of the text, after so many bytes.
use Rattle.std.proofs.Common.{ap, sym, ◌∙◌, ◌+◌, drop}
use Rattle.std.proofs.lemmas.List.{drop-drop}
use Rattle.md_blocks.specs.Rests.{rest_at, unindented}
use Rattle.md_blocks.specs.Positions.{rest_of}
use Rattle.md_blocks.proofs.Resting.{unindented_is}
use Rattle.md_blocks.proofs.position.Position.pass.Goals as goal

pub returns-clause-rest : goal.returns-clause-rest
returns-clause-rest c =
    let p = c.args.self.now in
    let width = c.args.width in
    ap (λ text. rest_at (p.column + p.indent + width) text)
    (sym (ap (drop width) (unindented_is p.line.now p.at p.column p.text p.is_in_tab p.text_there p.in_tab)
    ∙ drop-drop width p.text p.line.now))
    ∙ ap (λ n. rest_at (p.column + n + width) (drop width (unindented (rest_of p)))) p.indents
