-- Byte by byte.
use Rattle.md_text.proofs.UrlTriples.{percents-sanitized}
use Rattle.md_text.proofs.laws.percent_begins_a_triple.Goals as goal

pub returns : goal.returns
returns c = percents-sanitized
