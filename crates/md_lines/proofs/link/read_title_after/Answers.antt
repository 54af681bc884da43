-- Line by line.
use Rattle.std.proofs.Common.{◌≡◌, ◌+◌, ◌∷◌, ◌∙◌, ap, sym, arith, length, suc, take, drop, get_or}
use Rattle.std.specs.Prelude.{Some, option_map}
use Rattle.std.proofs.lemmas.List.{drop-drop}
use Rattle.md_lines.specs.Escapes.{in_line, before_unescaped, stops_title}
use Rattle.md_lines.specs.LinkParts.{title_after}
use Rattle.md_lines.specs.Reading.{lines_after, text_from}
use Rattle.md_lines.specs.Texts.{Part}
use Rattle.md_lines.proofs.Parts.{closed, later, never_closed}
use Rattle.md_lines.proofs.link.read_title_after.Goals as goal

pub lines-preserved : goal.lines-preserved
lines-preserved c =
    let cursor = c.lines.cursor in
    let inv = c.lines.invariant in
    let same = c.rest_of_line-text.ensures in
    let test = stops_title c.args.mark c.args.close in
    let n = c.title_length-length.result in
    let e = c.next_line.ensures in record {
      rest = inv.rest ∙ later c.args.mark c.args.close (in_line cursor) (lines_after cursor) n
          (c.title_length-length.ensures ∙ ap (before_unescaped test) same)
          (omega (arith, ap length same, c.if-length-text.false))
          ∙ ap (λ text. option_map (λ (part : Part). part.rest)
          (title_after c.args.mark c.args.close text)) (sym (e.text c.if-not-next_line.false));
      same = (e.same.0 ∙ inv.same.0, e.same.1 ∙ inv.same.1, omega arith);
    }

pub returns-then-not-next_line-clause-none : goal.returns-then-not-next_line-clause-none
returns-then-not-next_line-clause-none c =
    let cursor = c.lines.cursor in
    let same = c.rest_of_line-text.ensures in
    let test = stops_title c.args.mark c.args.close in
    never_closed c.args.mark c.args.close (text_from c.args.cursor.now) (in_line cursor)
    (lines_after cursor) c.title_length-length.result c.lines.invariant.rest
    (c.title_length-length.ensures ∙ ap (before_unescaped test) same)
    (omega (arith, ap length same, c.if-length-text.false))
    (c.next_line.ensures.last c.if-not-next_line.true)

pub returns-then-length-text-clause-rest : goal.returns-then-length-text-clause-rest
returns-then-length-text-clause-rest c =
    let cursor = c.lines.cursor in
    let same = c.rest_of_line-text.ensures in
    let test = stops_title c.args.mark c.args.close in
    let n = c.title_length-length.result in
    let line = take cursor.end cursor.bytes.now in
    let after : cursor.at + suc n ≡ cursor.at + n + 1 = omega arith in
    c.lines.invariant.rest
    ∙ closed c.args.mark c.args.close (in_line cursor) (lines_after cursor) n
    (c.title_length-length.ensures ∙ ap (before_unescaped test) same)
    (omega (arith, ap length same, c.if-length-text.true))
    (ap (λ xs. get_or xs n 0) (sym same) ∙ c.if-text-length.false)
    ∙ ap (λ xs. Some (xs ∷ lines_after cursor)) (drop-drop (suc n) cursor.at line)
    ∙ ap (λ k. Some (drop k line ∷ lines_after cursor)) after
