-- A triple is ASCII.
use Rattle.md_text.proofs.PlainLemmas.{triple-ascii}
use Rattle.md_text.proofs.url.writing.push_percent.Goals as goal

pub push_ascii-requires : goal.push_ascii-requires
push_ascii-requires c = triple-ascii _ _ c.hex_digit.ensures.ascii c.hex_digit-2.ensures.ascii
