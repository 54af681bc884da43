-- A byte that is passed comes before, alone or with the one that it escapes.
use Rattle.std.proofs.Common.{rules, ◌≡◌, ◌+◌, get_or, drop, true, false, sym, ap, ◌∙◌, arith}
use Rattle.md_lines.specs.Escapes.{before_unescaped, is_angle, width}
use Rattle.md_lines.proofs.Escapes.{stop, step}
use Rattle.md_lines.proofs.link.pointed_length.Goals as goal

pub loop-at-preserved : goal.loop-at-preserved
loop-at-preserved c =
    let text = c.args.text.now in
    let at = c.loop-at.at in
    let test = is_angle in
    let wide = width (drop at text) in
    let rest = before_unescaped test (drop (at + wide) text) in
    let goes : test (get_or text at 0) ≡ false = search rules in
    let sum : at + (wide + rest) ≡ at + wide + rest = omega arith in (
      c.after_byte-at.ensures.within,
      c.loop-at.invariant.1
          ∙ ap (λ n. at + n) (step test text at c.loop-at-test.true goes) ∙ sum
          ∙ ap (λ n. n + before_unescaped test (drop n text)) (sym c.after_byte-at.ensures.width),
    )

pub returns-else-not-is_angle : goal.returns-else-not-is_angle
returns-else-not-is_angle c =
    let text = c.args.text.now in
    let at = c.loop-at.at in
    let test = is_angle in
    let passes : test (get_or text at 0) ≡ true = search rules in
    omega (arith, c.loop-at.invariant.1, stop test text at c.loop-at-test.true passes)
