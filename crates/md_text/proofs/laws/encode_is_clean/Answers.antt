-- Byte by byte.
use Rattle.md_text.proofs.EncodeLaws.{is_escaped-encoded}
use Rattle.md_text.proofs.laws.encode_is_clean.Goals as goal

pub returns : goal.returns
returns c = is_escaped-encoded
