-- One more character is written.
use Rattle.std.proofs.lemmas.Grind.{common_steps}
use Rattle.std.proofs.Common.{arith}
use Rattle.std.proofs.lemmas.List.{append_assoc, append-nil, take_more}
use Rattle.std.proofs.lemmas.Str.{encodes-append}
use Rattle.md_base.proofs.identifier.push_characters.Goals as goal

pub loop-character-preserved : goal.loop-character-preserved
loop-character-preserved c =
    grind (arith, common_steps, append-nil, append_assoc, encodes-append, take_more)
