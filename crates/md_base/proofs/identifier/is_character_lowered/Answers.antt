-- ASCII is lowered, and a character with no folding stays.
use Rattle.std.proofs.Common.{sym, arith}
use Rattle.std.proofs.lemmas.Bool.{ltb-true, ltb-false, eqb-true}
use Rattle.md_base.proofs.FoldLemmas.{kept_character, lowered_character}
use Rattle.md_base.proofs.identifier.is_character_lowered.Goals as goal

pub returns-then-is_ascii : goal.returns-then-is_ascii
returns-then-is_ascii c holds =
    lowered_character c.args.character (ltb-true c.args.character 128 (sym c.if-is_ascii.ensures))

pub returns : goal.returns
returns c holds = grind (arith, kept_character, ltb-false, eqb-true)
