-- No entry of the two lists holds a `&`.
use Rattle.md_text.proofs.ProtocolLemmas.{kept-link, kept-image}
use Rattle.md_text.proofs.laws.kept_protocol_is_permitted.Goals as goal

pub returns-clause-links : goal.returns-clause-links
returns-clause-links c = kept-link

pub returns-clause-images : goal.returns-clause-images
returns-clause-images c = kept-image
