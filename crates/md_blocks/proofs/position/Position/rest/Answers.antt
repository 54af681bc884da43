-- Spaces are left of a tab that is used in part.
use Rattle.std.proofs.Common.{ap, sym, ◌∙◌, ◌≡◌, ◌%◌}
use Rattle.std.specs.Prelude.{if◌then◌else◌}
use Rattle.md_blocks.specs.LeafBlocks.{a_line}
use Rattle.md_blocks.specs.Positions.{ending_of}
use Rattle.md_blocks.proofs.LineLemmas.{text_from}
use Rattle.md_blocks.proofs.position.Position.rest.Goals as goal
use Rattle.md_blocks.proofs.position.Position.rest.Goals.{then-self, else-self}

pub returns-clause-line : goal.returns-clause-line
returns-clause-line c = λ bytes is.
    let p = c.args.self.now in
    let columns : c.if-self.columns ≡ (if p.is_in_tab then p.column % 4 else 0) =
    elim c.if-self.branch [
      | then-self w ↦ w.columns-is ∙ sym (ap (λ tab. if tab then p.column % 4 else 0) w.if-self.true)
      | else-self w ↦ w.columns-is ∙ sym (ap (λ tab. if tab then p.column % 4 else 0) w.if-self.false)
    ] in
    ap (λ text. a_line text (ending_of bytes p))
    (text_from bytes p.line.now c.if-self.columns p.at p.column p.is_in_tab is columns p.part_of_tab)
