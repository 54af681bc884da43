-- An underline is tried first; where it makes no heading, a break.
use Rattle.std.proofs.Common.{ap, sym, ◌∙◌, ◌≡◌, false}
use Rattle.std.proofs.Common.{refl, subst}
use Rattle.std.specs.Prelude.{get_or}
use Rattle.std.proofs.lemmas.Bool.{and_parts, false≢true}
use Rattle.md_blocks.specs.BlockStructure.{break_at, lines_defined, paragraph_lines}
use Rattle.md_blocks.specs.LeafBlocks.{definitions_taken, heading_underlined, if_begun}
use Rattle.md_blocks.specs.Leaves.{is_underline}
use Rattle.md_blocks.specs.Passes.{defined_in, leaf_lines, leaf_of, state_of}
use Rattle.md_blocks.specs.Positions.{rest_of, text_at}
use Rattle.md_blocks.specs.Rests.{unindented}
use Rattle.md_blocks.proofs.LineLemmas.{text_is}
use Rattle.md_blocks.proofs.Steps.{BreakOr, both_ok, breaks_or, heads, left_of, marks_of, unchanged, untried}
use Rattle.md_blocks.proofs.pass.Pass.begin_of_marks.Goals as goal

pub returns-then-not-may_underline-clause-state : goal.returns-then-not-may_underline-clause-state
returns-then-not-may_underline-clause-state c =
    let p = c.args.self.now in
    let new = c.begin_break_at.new.self in
    let place = c.args.position.now in
    let text = text_at place in
    let byte = c.args.byte in
    let depth = c.args.depth in
    let on = c.args.in_paragraph in
    let defined = defined_in p in
    let may_not = sym c.may_underline.ensures ∙ c.if-not-may_underline.true in
    both_ok c.begin_break_at.result
    (λ has. byte ≡ get_or text 0 0
    → break_at defined depth text (state_of p) ≡ if_begun has (state_of new))
    (λ has. has ≡ false → state_of new ≡ state_of p)
    (λ has. byte ≡ get_or text 0 0
    → (marks_of (unindented (rest_of place)) defined depth on (state_of p) ≡ if_begun has (state_of new))
    × (has ≡ false → state_of new ≡ left_of (unindented (rest_of place)) defined on (state_of p)))
    (λ has begun same is. (
      ap (λ t. marks_of t defined depth on (state_of p)) (text_is place)
          ∙ untried byte defined depth on text (state_of p) is may_not ∙ begun is,
      λ none. same none ∙ sym (ap (λ t. left_of t defined on (state_of p)) (text_is place)
          ∙ unchanged byte defined on text (state_of p) is may_not),
    ))
    c.begin_break_at.ensures.state c.begin_break_at.ensures.same

pub returns-then-branch-clause-state : goal.returns-then-branch-clause-state
returns-then-branch-clause-state c is =
    let p = c.args.self.now in
    let new = c.begin_underlined.new.self in
    let place = c.args.position.now in
    let text = text_at place in
    let byte = c.args.byte in
    let depth = c.args.depth in
    let on = c.args.in_paragraph in
    let defined = defined_in p in
    let may = sym c.may_underline.ensures ∙ c.if-not-may_underline.false in
    let lines : paragraph_lines (state_of p).leaf ≡ leaf_lines p =
    ap (λ l. paragraph_lines (leaf_of l (leaf_lines p))) (c.requires.is_paragraph (and_parts _ _ may).0) in (
      ap (λ t. marks_of t defined depth on (state_of p)) (text_is place)
          ∙ heads byte defined depth on text (state_of p) (state_of new) is may
          (ap (λ those. heading_underlined defined byte text those (state_of p)) lines
          ∙ c.in_ok-begin_underlined.ensures.state
          ∙ ap (λ so. if_begun so (state_of new)) c.if-branch.true),
      λ none. absurd (false≢true (sym none)),
    )

pub returns-clause-state : goal.returns-clause-state
returns-clause-state c =
    let p = c.args.self.now in
    let u = c.begin_underlined.new.self in
    let new = c.begin_break_at-2.new.self in
    let place = c.args.position.now in
    let text = text_at place in
    let byte = c.args.byte in
    let depth = c.args.depth in
    let on = c.args.in_paragraph in
    let taken = defined_in p in
    let defined = defined_in u in
    let may = sym c.may_underline.ensures ∙ c.if-not-may_underline.false in
    let lines : paragraph_lines (state_of p).leaf ≡ leaf_lines p =
    ap (λ l. paragraph_lines (leaf_of l (leaf_lines p))) (c.requires.is_paragraph (and_parts _ _ may).0) in
    both_ok c.begin_break_at-2.result
    (λ has. byte ≡ get_or text 0 0
    → break_at defined depth text (state_of u) ≡ if_begun has (state_of new))
    (λ has. has ≡ false → state_of new ≡ state_of u)
    (λ has. byte ≡ get_or text 0 0
    → BreakOr (unindented (rest_of place)) taken depth on (state_of p) has (state_of new))
    (λ has begun same is. subst (λ t. BreakOr t taken depth on (state_of p) has (state_of new))
    (sym (text_is place))
    (breaks_or byte taken defined depth on (is_underline byte text) has text
    (state_of p) (state_of u) (state_of new) is may refl
    (ap (λ those. heading_underlined taken byte text those (state_of p)) lines
    ∙ c.in_ok-begin_underlined.ensures.state
    ∙ ap (λ so. if_begun so (state_of u)) c.if-branch.false)
    (λ line. c.in_ok-begin_underlined.ensures.rest c.if-branch.false line
    ∙ ap (λ those. definitions_taken taken those (state_of p)) (sym lines))
    (λ none. ap state_of (c.in_ok-begin_underlined.ensures.same none)) (λ alike. ap lines_defined alike)
    (begun is) same))
    c.begin_break_at-2.ensures.state c.begin_break_at-2.ensures.same
