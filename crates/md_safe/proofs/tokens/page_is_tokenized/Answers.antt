-- Part after part.
use Rattle.md_safe.proofs.PageRuns.{page-runs, page-tokenized}
use Rattle.md_safe.proofs.tokens.page_is_tokenized.Goals as goal

pub returns-clause-tokens : goal.returns-clause-tokens
returns-clause-tokens c = page-runs

pub returns-clause-safe : goal.returns-clause-safe
returns-clause-safe c = page-tokenized
