-- Its fixed parts by computing, its title and its body as each is built.
use Rattle.md_safe.proofs.Pages.{reading-page-built, text-page-built}
use Rattle.md_safe.proofs.trees.page_is_built.Goals as goal

pub returns-clause-reading : goal.returns-clause-reading
returns-clause-reading c = reading-page-built

pub returns-clause-text : goal.returns-clause-text
returns-clause-text c = text-page-built
