-- By the patterns of links, images, calls and definitions.
use Rattle.md_content.proofs.Resolved.{labels-alike}
use Rattle.md_content.proofs.laws.printer_finds_the_labels.Goals as goal

pub returns : goal.returns
returns c = labels-alike
