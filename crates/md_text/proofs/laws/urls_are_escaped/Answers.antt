-- Both end with escaping.
use Rattle.md_text.proofs.EscapedLemmas.{sanitized-escaped, sanitized_with-escaped}
use Rattle.md_text.proofs.laws.urls_are_escaped.Goals as goal

pub returns-clause-any : goal.returns-clause-any
returns-clause-any c = sanitized-escaped

pub returns-clause-permitted : goal.returns-clause-permitted
returns-clause-permitted c = sanitized_with-escaped
