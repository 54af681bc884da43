-- The quote is in this line.
use Rattle.std.proofs.Common.{◌≡◌, ◌+◌, ◌∷◌, ◌∙◌, ap, arith, length, suc, take, drop}
use Rattle.std.specs.Prelude.{Some, not, ◌==◌}
use Rattle.std.specs.List.{prefix_len}
use Rattle.std.proofs.lemmas.List.{drop-drop}
use Rattle.md_lines.specs.Escapes.{in_line}
use Rattle.md_lines.specs.Reading.{lines_after}
use Rattle.md_lines.proofs.TagLemmas.{quoted-here}
use Rattle.md_lines.proofs.tag.skip_quoted.Goals as goal

pub returns-then-length-text-clause-text : goal.returns-then-length-text-clause-text
returns-then-length-text-clause-text c = λ _.
    let cursor = c.lines.cursor in
    let same = c.rest_of_line-text.ensures in
    let n = c.value_length-length.result in
    let line = take cursor.end cursor.bytes.now in
    let after : cursor.at + suc n ≡ cursor.at + n + 1 = omega arith in
    c.lines.invariant.end
    ∙ quoted-here c.args.quote (in_line cursor) (lines_after cursor) n
    (c.value_length-length.ensures
    ∙ ap (λ xs. prefix_len (λ byte. not (byte == c.args.quote)) xs) same)
    (omega (arith, ap length same, c.if-length-text.true))
    ∙ ap (λ xs. Some (xs ∷ lines_after cursor)) (drop-drop (suc n) cursor.at line)
    ∙ ap (λ k. Some (drop k line ∷ lines_after cursor)) after
