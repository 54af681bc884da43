-- The tests of links and of images, each by itself.
use Rattle.md_reader.proofs.SafeLemmas.{links-safe, images-safe}
use Rattle.md_reader.proofs.laws.accepted_text_is_as_compiled.Goals as goal

pub returns-clause-links : goal.returns-clause-links
returns-clause-links c = links-safe

pub returns-clause-images : goal.returns-clause-images
returns-clause-images c = images-safe
