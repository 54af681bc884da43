-- Nothing follows the spaces and tabs exactly at the end of the line.
use Rattle.std.proofs.Common.{ap, sym, ◌∙◌, inl, inr, length}
use Rattle.std.proofs.lemmas.Bool.{cases_lt, le-leb, lt-leb}
use Rattle.md_blocks.specs.Rests.{is_none}
use Rattle.md_blocks.proofs.Resting.{unindented_is, is_none_drop, is_some_drop}
use Rattle.md_blocks.proofs.position.Position.is_blank.Goals as goal

pub returns : goal.returns
returns c =
    let p = c.args.self.now in
    let same = ap is_none (unindented_is p.line.now p.at p.column p.text p.is_in_tab p.text_there p.in_tab) in
    elim (cases_lt p.text (length p.line.now)) [
      | inl there ↦ lt-leb (length p.line.now) p.text there ∙ sym (same ∙ is_some_drop p.line.now p.text there)
      | inr none ↦ le-leb (length p.line.now) p.text none ∙ sym (same ∙ is_none_drop p.line.now p.text none)
    ]
