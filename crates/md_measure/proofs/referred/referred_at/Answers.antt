-- Elsewhere no mention refers to a definition.
use Rattle.std.proofs.Common.{ap, sym, arith}
use Rattle.md_length.specs.Reuse.{length_at, definition_lengths}
use Rattle.md_measure.specs.Counting.{capped}
use Rattle.md_measure.proofs.Referring.{none-led}
use Rattle.md_measure.proofs.referred.referred_at.Goals as goal

pub returns-in_default : goal.returns-in_default
returns-in_default c = grind (arith, none-led)

pub returns-in_default-2 : goal.returns-in_default-2
returns-in_default-2 c = λ document mention flat here.
    let given = c.args.checked.now in
    let none = none-led given.bytes document given.events c.args.index c.args.event.now mention
    flat
    c.requires.there here (λ is. cc) in
    ap (λ place. capped (length_at (definition_lengths document) place)) (sym none)
