-- By one induction over the document, for any test on attributes.
use Rattle.md_safe.proofs.Whole.{one-reading, whole-printed, safe-links, safe-images}
use Rattle.md_safe.proofs.laws.safe_options_make_safe_output.Goals as goal

pub returns-clause-one_reading : goal.returns-clause-one_reading
returns-clause-one_reading c = one-reading

pub returns-clause-printed : goal.returns-clause-printed
returns-clause-printed c = whole-printed

pub returns-clause-safe_links : goal.returns-clause-safe_links
returns-clause-safe_links c = safe-links

pub returns-clause-safe_images : goal.returns-clause-safe_images
returns-clause-safe_images c = safe-images
