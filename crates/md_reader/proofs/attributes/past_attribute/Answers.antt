-- One attribute, or why there is none.
use Rattle.std.proofs.Common.{◌≡◌, ◌++◌, ◌∷◌, List, ℕ, sym, ap, ◌∙◌}
use Rattle.md_base.proofs.Lies.{lie}
use Rattle.md_reader.specs.Names.{listed}
use Rattle.md_reader.specs.Tests.{test_of}
use Rattle.md_reader.specs.Attributes.{is_unseen}
use Rattle.md_reader.proofs.AttributeLemmas.{none-out, absent, twice, unseen-named, attribute-at}
use Rattle.md_reader.proofs.AttributeLemmas.{attribute-parts, value-same}
use Rattle.md_reader.proofs.attributes.past_attribute.Goals as goal

pub returns-in_err-place-clause-is : goal.returns-in_err-place-clause-is
returns-in_err-place-clause-is c = none-out _ c.from_residual.result c.from_residual.ensures
    (λ other rest one.
    let parts = (attribute-parts (test_of c.args.rules.now).attribute
    (is_unseen (listed c.args.list) c.args.seen.now) (unseen-named c.args.list c.args.seen.now)
    c.args.text.now c.split_name.result.0.now c.split_name.result.1.now other rest
    c.split_name.ensures one).1 in
    absent (listed c.args.list) c.args.seen.now c.split_name.result.0.now
    (sym c.place.ensures.is ∙ c.in_err-place.was) parts.fresh)

pub returns-then-seen-place-clause-is : goal.returns-then-seen-place-clause-is
returns-then-seen-place-clause-is c = λ other rest one.
    let parts = (attribute-parts (test_of c.args.rules.now).attribute
    (is_unseen (listed c.args.list) c.args.seen.now) (unseen-named c.args.list c.args.seen.now)
    c.args.text.now c.split_name.result.0.now c.split_name.result.1.now other rest
    c.split_name.ensures one).1 in
    twice (listed c.args.list) c.args.seen.now c.split_name.result.0.now c.in_ok-place.place
    (sym c.place.ensures.is ∙ c.in_ok-place.was) c.if-seen-place.true parts.fresh

pub returns-in_err-past-clause-is : goal.returns-in_err-past-clause-is
returns-in_err-past-clause-is c = none-out _ c.from_residual-in_err-past.result
    c.from_residual-in_err-past.ensures (λ other rest one.
    let parts = (attribute-parts (test_of c.args.rules.now).attribute
    (is_unseen (listed c.args.list) c.args.seen.now) (unseen-named c.args.list c.args.seen.now)
    c.args.text.now c.split_name.result.0.now c.split_name.result.1.now other rest
    c.split_name.ensures one).1 in
    c.in_err-past.ensures.is (parts.value ++ (34 ∷ rest)) parts.is)

pub returns-then-not-may_have_attribute-clause-is :
    goal.returns-then-not-may_have_attribute-clause-is
returns-then-not-may_have_attribute-clause-is c = λ other rest one.
    let parts = (attribute-parts (test_of c.args.rules.now).attribute
    (is_unseen (listed c.args.list) c.args.seen.now) (unseen-named c.args.list c.args.seen.now)
    c.args.text.now c.split_name.result.0.now c.split_name.result.1.now other rest
    c.split_name.ensures one).1 in
    let same = value-same c.in_ok-past.field-0.now c.split_escaped.result.0.now
    c.split_escaped.result.1.now parts.value rest c.split_escaped.ensures.run
    (quoted _ _ (sym c.in_ok-past.ensures.is ∙ parts.is)) parts.escaped in
    lie (sym c.if-not-may_have_attribute.true ∙ c.may_have_attribute.ensures
    ∙ ap (λ v. (test_of c.args.rules.now).attribute
    (record { name = c.split_name.result.0.now; value = v })) same.0 ∙ parts.passes)
  where
    quoted : (x y : List ℕ) → 61 ∷ 34 ∷ x ≡ 61 ∷ 34 ∷ y → x ≡ y
    quoted x y e = cc

pub returns-in_err-rest-clause-is : goal.returns-in_err-rest-clause-is
returns-in_err-rest-clause-is c = none-out _ c.from_residual-in_err-rest.result
    c.from_residual-in_err-rest.ensures (λ other rest one.
    let parts = (attribute-parts (test_of c.args.rules.now).attribute
    (is_unseen (listed c.args.list) c.args.seen.now) (unseen-named c.args.list c.args.seen.now)
    c.args.text.now c.split_name.result.0.now c.split_name.result.1.now other rest
    c.split_name.ensures one).1 in
    let same = value-same c.in_ok-past.field-0.now c.split_escaped.result.0.now
    c.split_escaped.result.1.now parts.value rest c.split_escaped.ensures.run
    (quoted _ _ (sym c.in_ok-past.ensures.is ∙ parts.is)) parts.escaped in
    c.in_err-rest.ensures.is rest same.1)
  where
    quoted : (x y : List ℕ) → 61 ∷ 34 ∷ x ≡ 61 ∷ 34 ∷ y → x ≡ y
    quoted x y e = cc

pub returns-clause-is : goal.returns-clause-is
returns-clause-is c = attribute-at (test_of c.args.rules.now).attribute (listed c.args.list)
    c.args.seen.now c.in_ok-place.place c.args.text.now c.split_name.result.0.now
    c.split_name.result.1.now c.in_ok-past.field-0.now c.split_escaped.result.0.now
    c.split_escaped.result.1.now c.in_ok-rest.rest.now c.split_name.ensures
    (sym c.place.ensures.is ∙ c.in_ok-place.was) c.if-seen-place.false c.in_ok-past.ensures.is
    c.split_escaped.ensures.run (sym c.may_have_attribute.ensures ∙
    c.if-not-may_have_attribute.false)
    c.in_ok-rest.ensures.is
