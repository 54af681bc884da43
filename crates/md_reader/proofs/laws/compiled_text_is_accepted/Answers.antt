-- Both tests at once.
use Rattle.md_reader.proofs.SafeLemmas.{compiled-safe}
use Rattle.md_reader.proofs.laws.compiled_text_is_accepted.Goals as goal

pub returns : goal.returns
returns c = compiled-safe
