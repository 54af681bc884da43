use Rattle.md_page.proofs.Parts.{first}
use Rattle.md_page.proofs.scan.find_byte.Goals as goal

pub returns : goal.returns
returns c = first c.args.byte c.args.bytes.now c.memchr.result c.memchr.ensures
