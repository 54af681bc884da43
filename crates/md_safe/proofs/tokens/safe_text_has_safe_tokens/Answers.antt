-- By its one reading.
use Rattle.md_safe.proofs.Tokenized.{link-tokens, image-tokens}
use Rattle.md_safe.proofs.tokens.safe_text_has_safe_tokens.Goals as goal

pub returns-clause-links : goal.returns-clause-links
returns-clause-links c = link-tokens

pub returns-clause-images : goal.returns-clause-images
returns-clause-images c = image-tokens
