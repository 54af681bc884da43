-- Byte by byte.
use Rattle.md_text.proofs.UrlLaws.{sanitized-ascii}
use Rattle.md_text.proofs.UrlTwice.{sanitized-twice}
use Rattle.md_text.proofs.laws.sanitize_is_ascii.Goals as goal

pub returns-clause-ascii : goal.returns-clause-ascii
returns-clause-ascii c = sanitized-ascii

pub returns-clause-twice_is_once : goal.returns-clause-twice_is_once
returns-clause-twice_is_once c = sanitized-twice
