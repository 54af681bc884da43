-- The bytes before the index are plain.
use Rattle.std.proofs.Common.{arith}
use Rattle.std.proofs.lemmas.List.Sums.{prefix_len-le-length}
use Rattle.md_text.proofs.RunLemmas.{prefix_len-drop}
use Rattle.md_reader.specs.Runs.{is_plain}
use Rattle.md_reader.proofs.run.plain_length_from.Goals as goal

pub bytes-init : goal.bytes-init
bytes-init c = (
  omega (arith, c.requires, prefix_len-le-length is_plain c.args.text.now),
  prefix_len-drop is_plain c.args.start c.args.text.now c.requires,
)
