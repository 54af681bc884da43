-- A void tag, or why there is none.
use Rattle.std.proofs.Common.{arith, ◌≡◌, ◌∷◌, true, inr, refl, sym, ap, subst, ◌∙◌}
use Rattle.md_text.specs.Bytes.{is_one_of}
use Rattle.md_text.specs.Html.{is_tag, void_tags}
use Rattle.md_safe.specs.Contents.{voids_in}
use Rattle.md_reader.specs.Allowed.{content_of}
use Rattle.md_reader.specs.Names.{listed}
use Rattle.md_reader.specs.Tests.{test_of}
use Rattle.md_reader.proofs.AttributeLemmas.{none-out}
use Rattle.md_reader.proofs.NodeLemmas.{no-tag, no-depth, no-place, no-void, void-each}
use Rattle.md_reader.proofs.nodes.past_void.Goals as goal

pub returns-in_err-void-clause-is : goal.returns-in_err-void-clause-is
returns-in_err-void-clause-is c = none-out _ c.from_residual.result c.from_residual.ensures
    (no-tag (test_of c.args.rules.now) (content_of c.args.content) c.args.depth c.args.name.now
    c.args.text.now c.requires.split c.requires.open c.requires.no_element c.in_err-void.ensures)

pub returns-then-depth-eq0-clause-is : goal.returns-then-depth-eq0-clause-is
returns-then-depth-eq0-clause-is c = no-depth (test_of c.args.rules.now)
    (content_of c.args.content) c.args.depth c.args.name.now c.args.text.now c.requires.split
    c.requires.open c.if-depth-eq0.true

pub returns-then-not-allows_void-clause-is : goal.returns-then-not-allows_void-clause-is
returns-then-not-allows_void-clause-is c = no-place (test_of c.args.rules.now)
    (content_of c.args.content) c.args.depth c.args.name.now c.args.text.now c.requires.split
    c.requires.open c.requires.no_element
    (ap (λ n. is_one_of (voids_in (content_of c.args.content)) n) c.in_ok-void.ensures
    ∙ sym c.allows_void.ensures ∙ c.if-not-allows_void.true)

pub returns-in_err-rest-clause-is : goal.returns-in_err-rest-clause-is
returns-in_err-rest-clause-is c = none-out _ c.from_residual-in_err-rest.result
    c.from_residual-in_err-rest.ensures (no-void (test_of c.args.rules.now)
    (content_of c.args.content) c.args.depth (listed c.listed_for_void.result) c.args.name.now
    c.args.text.now c.requires.split c.requires.open c.requires.no_element
    (λ x h. c.listed_for_void.ensures.only x
    (subst (λ n. is_tag void_tags n x ≡ true) c.in_ok-void.ensures h))
    (λ deep allowed later found. c.in_err-rest.ensures.only (32 ∷ 47 ∷ 62 ∷ later)
    (inr (62 ∷ later, refl)) found))

pub returns-clause-is : goal.returns-clause-is
returns-clause-is c = void-each (test_of c.args.rules.now) (content_of c.args.content)
    c.args.depth (listed c.listed_for_void.result) c.args.name.now c.args.text.now
    c.in_ok-rest.rest.now c.requires.split c.requires.open c.requires.no_element
    (omega (arith, c.if-depth-eq0.false))
    (ap (λ n. is_one_of (voids_in (content_of c.args.content)) n) c.in_ok-void.ensures
    ∙ sym c.allows_void.ensures ∙ c.if-not-allows_void.false) c.requires.named
    (λ x h. subst (λ n. is_tag void_tags n x ≡ true) (sym c.in_ok-void.ensures)
    (c.listed_for_void.ensures.tag x h))
    (λ x h. c.listed_for_void.ensures.only x
    (subst (λ n. is_tag void_tags n x ≡ true) c.in_ok-void.ensures h))
    c.in_ok-rest.ensures.are c.in_ok-rest.ensures.only c.past.result c.past.ensures.is
