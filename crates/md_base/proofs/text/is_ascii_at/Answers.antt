-- No lane is marked.
use Rattle.md_base.proofs.AsciiLemmas.{ascii_in}
use Rattle.md_base.proofs.text.is_ascii_at.Goals as goal

pub returns : goal.returns
returns g c = ascii_in c.args.bytes.now c.args.at g.row.N c.requires.1 c.requires.0
