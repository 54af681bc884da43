-- An iteration writes a line and its line feed.
use Rattle.std.proofs.Common.{◌≡◌, ◌++◌, OnOk, string_bytes, sym, ap, ◌∙◌, subst, arith}
use Rattle.std.proofs.lemmas.Grind.{common_steps}
use Rattle.md_page.proofs.HeadingTurns.{lined-turn, lined-all}
use Rattle.md_page.proofs.headings.push_lined.Goals as goal

pub loop-line-preserved : goal.loop-line-preserved
loop-line-preserved c =
    let parts = c.in-Some.ensures.parts in (
      lined-turn (string_bytes c.loop-line.out) c.in-Some.line.now c.in-Some.after.now
          parts.0 parts.1 c.in_ok-push_str.ensures.bytes c.in_ok-push_line_feed.ensures
          c.loop-line.invariant.0,
      c.in-Some.ensures.texts.1,
    )

pub returns : goal.returns
returns c =
    let all = lined-all c.loop-line.rest.now c.in_default.ensures.parts in
    subst (λ text. OnOk c.push_str-2.result (string_bytes c.push_str-2.new.self ≡ text))
    (ap (λ text. string_bytes c.loop-line.out ++ text) (sym all) ∙ c.loop-line.invariant.0)
    (grind (arith, common_steps))
