-- Whatever is left out or changed on the way to the scheme belongs to none.
use Rattle.md_safe.proofs.Schemes.{permitted-link, permitted-image}
use Rattle.md_safe.proofs.tokens.safe_values_have_permitted_schemes.Goals as goal

pub returns-clause-links : goal.returns-clause-links
returns-clause-links c = permitted-link

pub returns-clause-images : goal.returns-clause-images
returns-clause-images c = permitted-image
