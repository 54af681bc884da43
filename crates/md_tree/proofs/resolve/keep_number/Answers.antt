-- A number is written in the fact at its index, and none elsewhere. The search does no
-- induction over the facts.
use Rattle.std.proofs.Common.{arith, ℕ, ◌≡◌, ◌≤◌, sym, ◌∙◌}
use Rattle.md_tree.proofs.MentionsResolved.{put-set, put-none, put-nowhere}
use Rattle.md_tree.proofs.resolve.keep_number.Goals as goal

nothing : (number : ℕ) → number ≤ 0 → number ≡ 0
nothing number none = omega (arith, none)

pub returns-in_ok-put : goal.returns-in_ok-put
returns-in_ok-put c =
    c.in_ok-put.ensures ∙ put-set c.args.facts.now c.args.index c.args.number c.in-Some.fact
    (sym c.get.ensures ∙ c.in-Some.is) c.if-number-gt0.true

pub returns-in_default : goal.returns-in_default
returns-in_default c =
    sym (put-nowhere c.args.facts.now c.args.index c.args.number
    (sym c.get.ensures ∙ c.in_default.is))

pub returns-else-number-gt0 : goal.returns-else-number-gt0
returns-else-number-gt0 c =
    sym (put-none c.args.facts.now c.args.index c.args.number
    (nothing c.args.number c.if-number-gt0.false))
