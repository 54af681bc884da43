-- One more token is part of the first one.
use Rattle.std.proofs.Common.{arith, ◌≡◌, ◌+◌, ◌-◌, ◌∙◌, ap, suc}
use Rattle.md_marks.specs.Pairs.{absorbed, with_mark}
use Rattle.md_marks.specs.declared.token.Mark.TheVariants.{Nothing}
use Rattle.md_marks.proofs.delimiters.join.Goals as goal

pub tokens-preserved : goal.tokens-preserved
tokens-preserved c =
    let end = c.args.end in
    let next = c.tokens.next in
    let one : suc (end - (next + 1)) ≡ end - next = omega (arith, c.tokens-test.true) in
    let on : next + 1 ≡ suc next = omega arith in (
      ap (λ tokens. absorbed (end - (next + 1)) (next + 1) tokens) c.set_mark-in-tokens.ensures
          ∙ ap (λ n. absorbed (end - (next + 1)) n
          (with_mark Nothing next c.tokens.tokens.items)) on
          ∙ ap (λ n. absorbed n next c.tokens.tokens.items) one ∙ c.tokens.invariant.0,
      omega (arith, c.tokens-test.true),
    )
