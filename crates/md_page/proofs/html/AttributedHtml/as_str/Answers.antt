use Rattle.std.proofs.Common.{rules}
use Rattle.md_page.proofs.Rules.{attributed}
use Rattle.md_page.proofs.html.AttributedHtml.as_str.Goals as goal

pub returns-clause-attributed : goal.returns-clause-attributed
returns-clause-attributed c = attributed c.args.self.now (search rules)
