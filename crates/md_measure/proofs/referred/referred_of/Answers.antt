-- If there are no definitions, nothing refers to one.
use Rattle.std.proofs.Common.{◌≡◌, ℕ, List, length, rules, ap, sym, ◌∙◌}
use Rattle.std.proofs.lemmas.List.{nil_from_length}
use Rattle.md_measure.specs.Counting.{capped}
use Rattle.md_measure.proofs.Referring.{none-referred}
use Rattle.md_measure.proofs.referred.referred_of.Goals as goal

pub returns-then-is_empty : goal.returns-then-is_empty
returns-then-is_empty c = λ document flat.
    let entries : List ℕ = c.definitions.result.now in
    let none : length entries ≡ 0 = search rules in
    sym (ap capped (none-referred c.args.checked.now.bytes document
    (sym (c.definitions.ensures.definitions document flat) ∙ nil_from_length entries none)))
