-- The text is what is left of the line.
use Rattle.std.proofs.Common.{ap, sym, drop}
use Rattle.md_blocks.specs.LeafBlocks.{a_line}
use Rattle.md_blocks.specs.Positions.{ending_of}
use Rattle.md_blocks.proofs.position.Position.text_line.Goals as goal

pub returns-clause-line : goal.returns-clause-line
returns-clause-line c = λ bytes is.
    let p = c.args.self.now in
    ap (λ line. a_line (drop p.text line) (ending_of bytes p)) (sym is)
