-- What the loop leaves is what is meant.
use Rattle.std.proofs.Common.{◌∙◌}
use Rattle.md_printer.proofs.Zeros.{zeros-same}
use Rattle.md_printer.proofs.lists.without_zeros.Goals as goal

pub returns : goal.returns
returns c = c.unpadded.ensures ∙ zeros-same c.args.digits.now
