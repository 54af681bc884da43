-- The partner in the fact is the one that the tree of the events gives. The search doesn't name
-- that tree, the one that the check has read.
use Rattle.std.proofs.Common.{◌≡◌, ℕ, Option, ap, ◌∙◌, refl}
use Rattle.md_tree.proofs.Common.{option_map, slice_get, Inside, Fact, Handed, IsReadAs, handed_of}
use Rattle.md_tree.proofs.Common.{IsKept, facts_at}
use Rattle.md_tree.specs.Indices.{IsPartnerAt}
use Rattle.md_tree.proofs.Kept.{facts_are, numbers}
use Rattle.md_tree.proofs.Numbers.{partner-with}
use Rattle.md_tree.proofs.Entering.{partners_there}
use Rattle.md_tree.proofs.checked.Checked.partner.Goals as goal

partner_is : (inside : Inside) (given : Handed) (index : ℕ) (partner : Option ℕ) → IsKept inside →
    handed_of inside ≡ given →
    partner ≡ option_map (λ (f : Fact). f.partner) (slice_get inside.facts index) →
    IsPartnerAt given index partner
partner_is inside given index partner kept same found =
    let flattened = IsReadAs.flattened kept.0.1 ∙ ap (λ (g : Handed). g.events) same in (
      kept.0.0,
      flattened,
      found ∙ ap (λ fs. option_map (λ (f : Fact). f.partner) (slice_get fs index))
          (facts_are inside given index kept same)
          ∙ partner-with (numbers inside given index kept same) (facts_at given.events) index
          ∙ partners_there kept.0.0 given.events (facts_at given.events) index flattened refl,
    )

pub returns : goal.returns
returns c =
    partner_is c.self.inside c.args.self.now c.args.index c.partner_at.result c.self.invariant
    c.self.view_is c.partner_at.ensures
