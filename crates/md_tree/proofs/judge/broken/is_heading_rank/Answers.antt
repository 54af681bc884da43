-- This search refuses a mutant in a second; the default one, with no answer given, takes ten.
use Rattle.std.proofs.Common.{rules}
use Rattle.md_tree.proofs.judge.broken.is_heading_rank.Goals as goal

pub returns-then-rank-ge1 : goal.returns-then-rank-ge1
returns-then-rank-ge1 c = search rules
