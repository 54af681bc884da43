-- The one search that proves it: it refuses a mutant in a second; the default search, with no
-- answer given, takes ten.
use Rattle.std.proofs.Common.{rules}
use Rattle.md_html.proofs.unnested.compile_unnested.Goals as goal

pub returns-then-has_nested_link-clause-nested : goal.returns-then-has_nested_link-clause-nested
returns-then-has_nested_link-clause-nested c = search rules

pub returns-clause-unnested : goal.returns-clause-unnested
returns-clause-unnested c = search rules

pub returns-clause-tree : goal.returns-clause-tree
returns-clause-tree c = search rules
