-- The text begins after the spaces and tabs.
use Rattle.std.proofs.Common.{ap, sym, ◌∙◌}
use Rattle.std.proofs.Math.Seq.{drop-cons}
use Rattle.std.proofs.lemmas.List.{drop_all}
use Rattle.md_blocks.specs.Rests.{first_of}
use Rattle.md_blocks.proofs.Resting.{unindented_is}
use Rattle.md_blocks.proofs.position.Position.byte.Goals as goal

pub returns-then-self-clause-value : goal.returns-then-self-clause-value
returns-then-self-clause-value c =
    let p = c.args.self.now in
    sym (ap first_of (unindented_is p.line.now p.at p.column p.text p.is_in_tab p.text_there p.in_tab
    ∙ drop-cons p.line.now p.text 0 c.if-self.true))

pub returns-else-self-clause-value : goal.returns-else-self-clause-value
returns-else-self-clause-value c =
    let p = c.args.self.now in
    sym (ap first_of (unindented_is p.line.now p.at p.column p.text p.is_in_tab p.text_there p.in_tab
    ∙ drop_all p.text p.line.now c.if-self.false))
