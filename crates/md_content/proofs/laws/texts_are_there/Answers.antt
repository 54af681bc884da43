-- By the rules of nodes, and by the marks before values.
use Rattle.md_content.proofs.TextsThere.{texts-there, labels-there}
use Rattle.md_content.proofs.Decoding.{references-decode}
use Rattle.md_content.proofs.laws.texts_are_there.Goals as goal

pub returns : goal.returns
returns c = record { texts = texts-there; labels = labels-there; references = references-decode }
