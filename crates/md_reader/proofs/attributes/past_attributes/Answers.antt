-- One attribute after another, and where they end.
use Rattle.std.proofs.Common.{arith, ◌<◌, ◌∙◌, sym, subst, length, length-set, refl, List, Bool}
use Rattle.std.proofs.Common.{false, [], ◌∷◌}
use Rattle.md_reader.specs.Names.{listed}
use Rattle.md_reader.specs.Tests.{test_of}
use Rattle.md_reader.specs.Attributes.{AreAttributes, is_unseen}
use Rattle.md_reader.proofs.AttributeLemmas.{init-back, init-forth, loop-back, loop-forth}
use Rattle.md_reader.proofs.AttributeLemmas.{end-same, no-space, no-attribute}
use Rattle.md_reader.proofs.AttributeLemmas.{listed-named, unseen-named, none-out}
use Rattle.md_reader.proofs.attributes.past_attributes.Goals as goal

abbrev unseen : List Bool
unseen = false ∷ false ∷ false ∷ false ∷ false ∷ false ∷ false ∷ false ∷ false ∷ false ∷ false ∷ false ∷ []

pub attributes-init : goal.attributes-init
attributes-init c = (
  λ end are. init-back (test_of c.args.rules.now).attribute (listed c.args.list) unseen
      c.args.text.now end refl
      are,
  λ end ends are. init-forth (test_of c.args.rules.now).attribute
      (listed c.args.list) unseen c.args.text.now end
      refl are,
  omega arith,
  refl,
)

pub attributes-preserved : goal.attributes-preserved
attributes-preserved c =
    let below : c.in_ok-place.place < length c.attributes.seen =
    omega (arith, c.in_ok-place.ensures.within, c.attributes.invariant.3) in (
      λ end are. c.attributes.invariant.0 end (subst
          (λ x. AreAttributes (test_of c.args.rules.now).attribute
          (is_unseen (listed c.args.list) c.attributes.seen) x end) (sym c.in_ok-after.ensures.is)
          (loop-back (test_of c.args.rules.now).attribute (listed c.args.list) c.attributes.seen
          c.in_ok-place.place c.in_ok-after.after.now c.in_ok-place.later.now end below
          c.in_ok-place.ensures.is are)),
      λ end ends are. loop-forth (test_of c.args.rules.now).attribute (listed c.args.list)
          c.attributes.seen c.in_ok-place.place c.in_ok-after.after.now c.in_ok-place.later.now end
          (listed-named c.args.list) below c.in_ok-place.ensures.is ends (subst
          (λ x. AreAttributes (test_of c.args.rules.now).attribute
          (is_unseen (listed c.args.list) c.attributes.seen) x end) c.in_ok-after.ensures.is
          (c.attributes.invariant.1 end ends are)),
      omega (
        arith,
        c.in_ok-place.ensures.shorter,
        c.in_ok-after.ensures.shorter,
        c.attributes.invariant.2,
      ),
      length-set c.attributes.seen c.in_ok-place.place _ ∙ c.attributes.invariant.3,
    )

pub returns-then-is_end-clause-only : goal.returns-then-is_end-clause-only
returns-then-is_end-clause-only c = λ end ends are.
    end-same (test_of c.args.rules.now).attribute (is_unseen (listed c.args.list) c.attributes.seen)
    (unseen-named c.args.list c.attributes.seen) c.attributes.rest.now end
    (c.is_end.ensures.ends c.if-is_end.true) (c.attributes.invariant.1 end ends are)

pub returns-in_err-after-clause-only : goal.returns-in_err-after-clause-only
returns-in_err-after-clause-only c = λ end ends are.
    none-out _ c.from_residual.result c.from_residual.ensures (no-space
    (test_of c.args.rules.now).attribute
    (is_unseen (listed c.args.list) c.attributes.seen) c.attributes.rest.now end ends
    (c.attributes.invariant.1 end ends are) (c.is_end.ensures.goes_on c.if-is_end.false)
    c.in_err-after.ensures.is)

pub returns-in_err-place-clause-only : goal.returns-in_err-place-clause-only
returns-in_err-place-clause-only c = λ end ends are.
    none-out _ c.from_residual-in_err-place.result c.from_residual-in_err-place.ensures
    (no-attribute (test_of c.args.rules.now).attribute (is_unseen
    (listed c.args.list) c.attributes.seen)
    c.attributes.rest.now c.in_ok-after.after.now end ends
    (c.attributes.invariant.1 end ends are) (c.is_end.ensures.goes_on c.if-is_end.false)
    c.in_ok-after.ensures.is c.in_err-place.ensures.is)
