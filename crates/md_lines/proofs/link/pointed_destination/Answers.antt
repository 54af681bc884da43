-- The text before the closing bracket.
use Rattle.std.proofs.Common.{◌∙◌, ap, sym, arith, length, take, get_or, refl}
use Rattle.std.proofs.lemmas.List.{length-drop, length-take}
use Rattle.md_lines.specs.Escapes.{in_line, is_angle, before_unescaped}
use Rattle.md_lines.specs.LinkParts.{destination_of}
use Rattle.md_lines.proofs.Parts.{found_in, pointed_is}
use Rattle.md_lines.proofs.link.pointed_destination.Goals as goal

pub returns-clause-found : goal.returns-clause-found
returns-clause-found c =
    let cursor = c.args.cursor.now in
    let bytes = cursor.bytes.now in
    let line = in_line cursor in
    let same = c.rest_of_line-text.ensures in
    let n = c.pointed_length-length.result in
    let longer = ap length same in
    ap (λ count. destination_of 1 count line) (pointed_is line n
    (c.pointed_length-length.ensures ∙ ap (before_unescaped is_angle) same)
    (omega (arith, longer, c.if-length-text.false))
    (ap (λ xs. get_or xs n 0) (sym same) ∙ c.if-text-length.false))
    ∙ found_in bytes cursor.at n cursor.end 1 _ _ _ (omega (
      arith,
      longer,
      c.if-length-text.false,
      length-drop cursor.at (take cursor.end bytes),
      length-take cursor.end bytes,
    ))
    c.new.ensures.start (omega (arith, c.new.ensures.end)) refl
