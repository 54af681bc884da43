-- Its reading is such a forest.
use Rattle.md_page.proofs.Forests.{read-built}
use Rattle.md_page.proofs.laws.text_built_as_read_is_built_as_written.Goals as goal

pub returns : goal.returns
returns c = read-built
