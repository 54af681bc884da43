-- A byte that is passed comes before, alone or with the one that it escapes.
use Rattle.std.proofs.Common.{◌<◌, length, ◌≡◌, ◌+◌, get_or, drop, true, false, sym, ap, ◌∙◌, arith}
use Rattle.md_lines.specs.Escapes.{before_unescaped, width}
use Rattle.md_lines.specs.Lines.{goes_on_in_label}
use Rattle.md_lines.specs.LinkParts.{is_bracket}
use Rattle.md_lines.proofs.Escapes.{no_bracket, no_escape, stop, step, width-le, width-one}
use Rattle.md_lines.proofs.link.label_length.Goals as goal

pub loop-length-preserved : goal.loop-length-preserved
loop-length-preserved c =
    let text = c.args.text.now in
    let at = c.loop-length.length in
    let wide = width (drop at text) in
    let rest = before_unescaped is_bracket (drop (at + wide) text) in
    let goes : is_bracket (get_or text at 0) ≡ false =
    sym c.is_bracket.ensures ∙ c.if-is_bracket.false in
    let sum : at + (wide + rest) ≡ at + wide + rest = omega arith in record {
      within = c.after_byte-length.ensures.within;
      short = omega (arith, c.after_byte-length.ensures.width, width-le (drop at text));
      before = c.loop-length.invariant.before
          ∙ ap (λ n. at + n) (step is_bracket text at (omega arith) goes) ∙ sum
          ∙ ap (λ n. n + before_unescaped is_bracket (drop n text))
          (sym c.after_byte-length.ensures.width);
    }

pub loop-length-preserved-then-goes_on_in_label : goal.loop-length-preserved-then-goes_on_in_label
loop-length-preserved-then-goes_on_in_label c =
    let text = c.args.text.now in
    let at = c.loop-length.length in
    let byte = get_or text at 0 in
    let goes : goes_on_in_label byte ≡ true =
    sym c.goes_on_in_label.ensures ∙ c.if-goes_on_in_label.true in
    let within : at < length text = omega arith in
    let one = width-one text at within (no_escape byte goes) in record {
      within = omega arith;
      short = omega arith;
      before = c.loop-length.invariant.before ∙ ap (λ n. at + n)
          (step is_bracket text at within (no_bracket byte goes)
          ∙ ap (λ n. n + before_unescaped is_bracket (drop (at + n) text)) one) ∙ omega arith;
    }

pub returns-then-is_bracket-clause-first : goal.returns-then-is_bracket-clause-first
returns-then-is_bracket-clause-first c _ =
    let text = c.args.text.now in
    let at = c.loop-length.length in
    let passes : is_bracket (get_or text at 0) ≡ true =
    sym c.is_bracket.ensures ∙ c.if-is_bracket.true in
    omega (arith, c.loop-length.invariant.before, stop is_bracket text at (omega arith) passes)
