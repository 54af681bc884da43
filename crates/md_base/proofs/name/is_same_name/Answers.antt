-- If the first name has no number: the derived `==` tests the variants in order, and the number for
-- the variant that has one.
use Rattle.std.proofs.Common.{eqb, sym, ◌∙◌}
use Rattle.std.proofs.lemmas.Bool.Decides.{Decides-eqb, Decides-like}
use Rattle.md_base.specs.contracts.event.Name.{enum}
use Rattle.md_base.proofs.EnumLemmas.{Tests, same_decides}
use Rattle.md_base.proofs.name.is_same_name.Goals as goal

number_test : Tests enum.parts
number_test = (
  (
    λ x y. eqb x.0 y.0,
    λ x y. Decides-like (eqb x.0 y.0) (λ e i. (e i, tt)) (λ e i. (e i).0)
        (Decides-eqb x.0 y.0),
  ),
  tt,
)

pub returns-in_default : goal.returns-in_default
unfolding number_test
returns-in_default c =
    let decides = same_decides enum number_test c.args.a c.args.b in
    (λ same. decides.0 (sym c.eq.ensures ∙ same), λ same. c.eq.ensures ∙ decides.1 same)
