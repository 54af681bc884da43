-- The one search that proves it: it refuses a mutant in a second; the default search, with no
-- answer given, takes ten.
use Rattle.std.proofs.Common.{rules}
use Rattle.md_html.proofs.SafeTokens.{safe-tokens}
use Rattle.md_html.proofs.safe_html.SafeHtml.as_str.Goals as goal

pub returns-clause-text : goal.returns-clause-text
returns-clause-text c = search rules

pub returns-clause-tokens : goal.returns-clause-tokens
returns-clause-tokens c = safe-tokens c.args.self.now (search rules)
