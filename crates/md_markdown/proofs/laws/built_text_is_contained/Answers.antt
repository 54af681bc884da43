-- Links may contain links, and none does.
use Rattle.md_markdown.proofs.ContainedLemmas.{built-contained}
use Rattle.md_markdown.proofs.laws.built_text_is_contained.Goals as goal

pub returns : goal.returns
returns c = built-contained
