-- One node after another, and where they end.
use Rattle.std.proofs.Common.{rules, arith, ◌-◌, ◌∷◌, ◌++◌, inl, inr, refl, sym, ap, subst, ◌∙◌}
use Rattle.md_reader.specs.Allowed.{content_of}
use Rattle.md_reader.specs.Tests.{test_of}
use Rattle.md_reader.specs.Levels.{IsEnd, IsLevel}
use Rattle.md_reader.proofs.AttributeLemmas.{none-out}
use Rattle.md_reader.proofs.LevelLemmas.{level-none, level-end}
use Rattle.md_reader.proofs.NodeLemmas.{no-depth, no-element, element-each, node-same, cut-same}
use Rattle.md_reader.proofs.NodeLemmas.{child-same, no-named}
use Rattle.md_reader.proofs.nodes.+nodes.Goals as goal

pub past_nodes-nodes-init : goal.past_nodes-nodes-init
past_nodes-nodes-init t c = (λ end level. level, λ end ends level. level, omega arith)

pub past_nodes-nodes-preserved : goal.past_nodes-nodes-preserved
past_nodes-nodes-preserved t c = (
  λ end level. c.nodes.invariant.0 end (c.in_ok-rest.ensures.is.back end level),
  λ end ends level. c.in_ok-rest.ensures.is.forth end ends
      (c.nodes.invariant.1 end ends level),
  omega (arith, c.in_ok-rest.ensures.shorter, c.nodes.invariant.2),
)

pub past_nodes-returns-then-is_end-clause-is : goal.past_nodes-returns-then-is_end-clause-is
past_nodes-returns-then-is_end-clause-is t c = c.nodes.invariant.0 c.nodes.rest.now
    (level-none (test_of c.args.rules.now) (content_of c.args.content) c.args.depth
    c.nodes.rest.now)

pub past_nodes-returns-then-is_end-clause-only : goal.past_nodes-returns-then-is_end-clause-only
past_nodes-returns-then-is_end-clause-only t c = λ end ends level.
    level-end (test_of c.args.rules.now) (content_of c.args.content) c.args.depth
    c.nodes.rest.now end (c.is_end.ensures.ends c.if-is_end.true)
    (c.nodes.invariant.1 end ends level)

pub past_nodes-returns-in_err-rest-clause-only : goal.past_nodes-returns-in_err-rest-clause-only
past_nodes-returns-in_err-rest-clause-only t c = λ end ends level.
    none-out _ c.from_residual.result c.from_residual.ensures
    (c.in_err-rest.ensures.is end ends (c.nodes.invariant.1 end ends level))

pub past_node-past_tag-requires : goal.past_node-past_tag-requires
past_node-past_tag-requires t c = (
  search rules,
  λ e. c.requires (subst IsEnd (sym c.in-Some.ensures.is) e),
)

pub past_node-returns-in-Some-clause-is : goal.past_node-returns-in-Some-clause-is
past_node-returns-in-Some-clause-is t c = node-same (test_of c.args.rules.now)
    (content_of c.args.content) c.args.depth (60 ∷ c.in-Some.tag.now) c.args.text.now
    c.past_tag.result (sym c.in-Some.ensures.is) c.past_tag.ensures.is

pub past_tag-returns-then-not-may_have_tag-clause-is :
    goal.past_tag-returns-then-not-may_have_tag-clause-is
past_tag-returns-then-not-may_have_tag-clause-is t c = no-named (test_of c.args.rules.now)
    (content_of c.args.content) c.args.depth c.args.tag.now c.split_name.result.0.now
    c.split_name.result.1.now c.split_name.ensures c.requires
    (sym c.may_have_tag.ensures ∙ c.if-not-may_have_tag.true)

pub past_tag-past_element-requires : goal.past_tag-past_element-requires
past_tag-past_element-requires t c = (
  search rules,
  (
    record {
      cut = cut-same c.args.tag.now c.split_name.result.0.now c.split_name.result.1.now
          c.split_name.ensures;
      on = λ e. c.requires (subst (λ x. IsEnd (60 ∷ x)) (sym c.split_name.ensures.is) e);
      allowed = c.in-Some.ensures;
    },
    sym c.may_have_tag.ensures ∙ c.if-not-may_have_tag.false,
  ),
)

pub past_tag-past_void-requires-clause-named : goal.past_tag-past_void-requires-clause-named
past_tag-past_void-requires-clause-named t c =
    sym c.may_have_tag.ensures ∙ c.if-not-may_have_tag.false

pub past_tag-past_void-requires-clause-split : goal.past_tag-past_void-requires-clause-split
past_tag-past_void-requires-clause-split t c = cut-same c.args.tag.now
    c.split_name.result.0.now c.split_name.result.1.now c.split_name.ensures

pub past_tag-past_void-requires-clause-open : goal.past_tag-past_void-requires-clause-open
past_tag-past_void-requires-clause-open t c =
    λ e. c.requires (subst (λ x. IsEnd (60 ∷ x)) (sym c.split_name.ensures.is) e)

pub past_tag-returns-in-Some-clause-is : goal.past_tag-returns-in-Some-clause-is
past_tag-returns-in-Some-clause-is t c = node-same (test_of c.args.rules.now)
    (content_of c.args.content) c.args.depth
    (60 ∷ (c.split_name.result.0.now ++ c.split_name.result.1.now)) (60 ∷ c.args.tag.now)
    c.past_element.result (ap (λ x. 60 ∷ x) (sym c.split_name.ensures.is))
    c.past_element.ensures.is

pub past_tag-returns-in-None-clause-is : goal.past_tag-returns-in-None-clause-is
past_tag-returns-in-None-clause-is t c = node-same (test_of c.args.rules.now)
    (content_of c.args.content) c.args.depth
    (60 ∷ (c.split_name.result.0.now ++ c.split_name.result.1.now)) (60 ∷ c.args.tag.now)
    c.past_void.result (ap (λ x. 60 ∷ x) (sym c.split_name.ensures.is)) c.past_void.ensures.is

pub past_element-returns-then-depth-eq0-clause-is :
    goal.past_element-returns-then-depth-eq0-clause-is
past_element-returns-then-depth-eq0-clause-is t c = no-depth (test_of c.args.rules.now)
    (content_of c.args.content) c.args.depth c.args.name.now c.args.text.now c.requires.begun.cut
    c.requires.begun.on c.if-depth-eq0.true

pub past_element-returns-in_err-rest-clause-is : goal.past_element-returns-in_err-rest-clause-is
past_element-returns-in_err-rest-clause-is t c = none-out _ c.from_residual.result
    c.from_residual.ensures (no-element (test_of c.args.rules.now) (content_of c.args.content)
    c.args.depth c.args.found c.args.name.now c.args.text.now c.requires.begun.cut
    c.requires.begun.on
    c.requires.begun.allowed (λ deep children later found level.
    c.in_err-rest.ensures.only (62 ∷ children) (inl (children, refl)) found))

pub past_element-returns-in_err-children-clause-is :
    goal.past_element-returns-in_err-children-clause-is
past_element-returns-in_err-children-clause-is t c =
    none-out _ c.from_residual-in_err-children.result c.from_residual-in_err-children.ensures
    (no-element (test_of c.args.rules.now) (content_of c.args.content) c.args.depth c.args.found
    c.args.name.now c.args.text.now c.requires.begun.cut c.requires.begun.on
    c.requires.begun.allowed
    (λ deep children later found level. c.in_err-children.ensures.is children
    (c.in_ok-rest.ensures.only (62 ∷ children) (inl (children, refl)) found)))

pub past_element-returns-in_err-end-clause-is : goal.past_element-returns-in_err-end-clause-is
past_element-returns-in_err-end-clause-is t c =
    none-out _ c.from_residual-in_err-end.result c.from_residual-in_err-end.ensures
    (no-element (test_of c.args.rules.now) (content_of c.args.content) c.args.depth c.args.found
    c.args.name.now c.args.text.now c.requires.begun.cut c.requires.begun.on
    c.requires.begun.allowed
    (λ deep children later found level. c.in_err-end.ensures.only
    (60 ∷ 47 ∷ (c.args.name.now ++ (62 ∷ later)))
    (inr (c.args.name.now ++ (62 ∷ later), refl)) (subst
    (λ x. IsLevel (test_of c.args.rules.now) (content_of c.args.found.content)
    (c.args.depth - 1) x
    (60 ∷ 47 ∷ (c.args.name.now ++ (62 ∷ later)))) (child-same children
    c.in_ok-children.children.now (sym (c.in_ok-rest.ensures.only (62 ∷ children)
    (inl (children, refl)) found) ∙ c.in_ok-children.ensures.is)) level)))

pub past_element-returns-clause-is : goal.past_element-returns-clause-is
past_element-returns-clause-is t c = element-each (test_of c.args.rules.now)
    (content_of c.args.content) c.args.depth c.args.found c.args.name.now c.args.text.now
    c.in_ok-rest.rest.now c.in_ok-children.children.now c.in_ok-end.end.now c.requires.begun.cut
    c.requires.begun.on c.requires.begun.allowed (omega (arith, c.if-depth-eq0.false))
    c.requires.named
    c.in_ok-rest.ensures.are c.in_ok-rest.ensures.only c.in_ok-children.ensures.is
    c.in_ok-end.ensures.is c.in_ok-end.ensures.only c.past_end.result c.past_end.ensures.is
