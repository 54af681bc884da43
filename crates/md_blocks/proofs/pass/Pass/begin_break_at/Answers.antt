-- The first byte says whether a break may begin.
use Rattle.std.proofs.Common.{ℕ, List, ap, sym, ◌∙◌, ◌≡◌, ◌==◌, Option, None}
use Rattle.std.specs.Prelude.{◌||◌, get_or, if◌then◌else◌}
use Rattle.std.proofs.lemmas.Result.{IfOk-weaker}
use Rattle.md_blocks.specs.LeafBlocks.{break_begun, if_begun}
use Rattle.md_blocks.specs.Passes.{defined_in, state_of}
use Rattle.md_blocks.specs.Positions.{text_at}
use Rattle.md_blocks.specs.States.{State}
use Rattle.md_blocks.proofs.pass.Pass.begin_break_at.Goals as goal

abbrev chosen : ℕ → ℕ → ℕ → List ℕ → State → Option State
chosen mark defined depth text state =
    if mark == 42 || (mark == 45 || mark == 95) then break_begun defined mark depth text state
    else None

pub returns-then-not-is_break_mark-clause-state : goal.returns-then-not-is_break_mark-clause-state
returns-then-not-is_break_mark-clause-state c is =
    let p = c.args.self.now in
    let text = text_at c.args.position.now in
    let defined = defined_in p in
    ap (λ mark. chosen mark defined c.args.depth text (state_of p)) (sym is)
    ∙ ap (λ so. if so then break_begun defined c.args.byte c.args.depth text (state_of p) else None)
    (sym c.is_break_mark.ensures ∙ c.if-not-is_break_mark.true)

pub returns-clause-state : goal.returns-clause-state
returns-clause-state c =
    let p = c.args.self.now in
    let new = c.begin_break.new.self in
    let text = text_at c.args.position.now in
    let defined = defined_in p in
    IfOk-weaker c.begin_break.result
    (λ has. break_begun defined c.args.byte c.args.depth text (state_of p) ≡ if_begun has (state_of new))
    (λ has. c.args.byte ≡ get_or text 0 0
    → chosen (get_or text 0 0) defined c.args.depth text (state_of p) ≡ if_begun has (state_of new))
    (λ has begun is. ap (λ mark. chosen mark defined c.args.depth text (state_of p)) (sym is)
    ∙ ap (λ so. if so then break_begun defined c.args.byte c.args.depth text (state_of p) else None)
    (sym c.is_break_mark.ensures ∙ c.if-not-is_break_mark.false) ∙ begun)
    c.begin_break.ensures.state
