-- The definition that the check gives is the one that is found by its identifier; if it gives none,
-- the link has a resource.
use Rattle.std.proofs.Common.{arith, ℕ, Option, Some, None}
use Rattle.std.specs.Prelude.{IfSome}
use Rattle.md_tree.specs.Numbers.{IsDefinitionFor}
use Rattle.md_facts.specs.Definitions.{RefersTo}
use Rattle.md_facts.proofs.Leading.{led-there, led-target, unled}
use Rattle.md_facts.proofs.definitions.referred_definition_at.Goals as goal

if-some : (Is : Option ℕ → Type 0) (P : ℕ → Type 0) → ((place : ℕ) → Is (Some place) → P place) →
    (o : Option ℕ) →
    Is o → IfSome o P
if-some Is P f o is = grind arith

pub returns-clause-referred : goal.returns-clause-referred
returns-clause-referred c =
    by c.definition_of.result c.definition_of.ensures
  where
    by : (o : Option ℕ) → IsDefinitionFor c.args.checked.now c.args.index o →
        RefersTo c.args.checked.now c.args.index o
    by None is = unled c.args.checked.now c.args.index c.requires c.grammatical.ensures is
    by (Some place) is =
        led-target c.args.checked.now c.args.index place c.requires c.grammatical.ensures is

pub returns-clause-there : goal.returns-clause-there
returns-clause-there c =
    let context = c.args.checked.now in
    if-some (IsDefinitionFor context c.args.index) _
    (λ place is. led-there context c.args.index place c.requires c.grammatical.ensures is)
    c.definition_of.result c.definition_of.ensures
