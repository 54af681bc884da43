-- Byte by byte.
use Rattle.md_text.proofs.EscapedLemmas.{escaped-append}
use Rattle.md_text.proofs.laws.escaped_texts_join.Goals as goal

pub returns : goal.returns
returns c = escaped-append
