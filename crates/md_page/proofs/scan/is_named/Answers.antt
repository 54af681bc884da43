-- Another letter, or no level after it.
use Rattle.std.proofs.Common.{◌≡◌, suc, ◌<◌, ◌+◌, length, false, drop, sym, ◌∙◌, subst, arith}
use Rattle.std.proofs.Common.{ne_eqb}
use Rattle.std.specs.Prelude.{slice_index}
use Rattle.md_page.specs.declared.scan.Rule.TheVariants.{Link, Heading}
use Rattle.md_page.specs.Scan.{picks_of}
use Rattle.md_page.proofs.Passing.{unnamed, unlevelled}
use Rattle.md_page.proofs.scan.is_named.Goals as goal

pub returns-in-Link : goal.returns-in-Link
returns-in-Link c = λ other.
    let within : c.args.at + 1 < length c.args.text.now = omega (arith, c.requires) in
    subst (λ r. picks_of r (drop (suc c.args.at) c.args.text.now) ≡ false) (sym c.in-Link.is)
    (unnamed Link c.args.text.now c.args.at within other)

pub returns-then-text-at-eq104 : goal.returns-then-text-at-eq104
returns-then-text-at-eq104 c = λ other.
    subst (λ r. picks_of r (drop (suc c.args.at) c.args.text.now) ≡ false) (sym c.in-Heading.is)
    (unlevelled c.args.text.now c.args.at c.requires (sym c.is_level.ensures ∙ other))

pub returns-else-text-at-eq104 : goal.returns-else-text-at-eq104
returns-else-text-at-eq104 c = λ other.
    let within : c.args.at + 1 < length c.args.text.now = omega (arith, c.requires) in
    subst (λ r. picks_of r (drop (suc c.args.at) c.args.text.now) ≡ false) (sym c.in-Heading.is)
    (unnamed Heading c.args.text.now c.args.at within
    (ne_eqb (slice_index c.args.text.now (c.args.at + 1)) 104 c.if-text-at-eq104.false))
