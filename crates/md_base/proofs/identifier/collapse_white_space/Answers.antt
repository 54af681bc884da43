-- The written text, followed by the result for the rest, is the collapsed text at each character:
-- the steps of the one pass.
use Rattle.std.proofs.Common.{arith}
use Rattle.std.proofs.lemmas.Bool.{false≢true}
use Rattle.std.proofs.lemmas.List.{nil_from_length}
use Rattle.md_base.proofs.IdentifierLemmas.{still_start, white_step, black_step, still_end}
use Rattle.md_base.proofs.IdentifierLemmas.{owed_after}
use Rattle.md_base.proofs.identifier.collapse_white_space.Goals as goal

pub loop-character-init : goal.loop-character-init
loop-character-init c = grind (arith, still_start, false≢true)

pub loop-character-preserved-then-is_white_space : goal.loop-character-preserved-then-is_white_space
loop-character-preserved-then-is_white_space c = grind (arith, white_step, owed_after)

pub loop-character-preserved : goal.loop-character-preserved
loop-character-preserved c = grind (arith, black_step, false≢true)

pub returns : goal.returns
returns c = grind (arith, still_end, nil_from_length)
