-- Byte by byte.
use Rattle.md_text.proofs.EncodeLaws.{read_back-encoded}
use Rattle.md_text.proofs.laws.encode_reads_back.Goals as goal

pub returns : goal.returns
returns c = read_back-encoded
