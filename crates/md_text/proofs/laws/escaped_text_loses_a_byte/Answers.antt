-- Byte by byte.
use Rattle.md_text.proofs.EscapedLemmas.{escaped-without}
use Rattle.md_text.proofs.laws.escaped_text_loses_a_byte.Goals as goal

pub returns : goal.returns
returns c = escaped-without
