-- One text, or none.
use Rattle.md_reader.proofs.SafeLemmas.{escaped-safe}
use Rattle.md_reader.proofs.laws.escaped_text_is_safe.Goals as goal

pub returns : goal.returns
returns c = escaped-safe
