-- Line by line, and at the bracket.
use Rattle.std.proofs.Common.{◌≡◌, ◌≤◌, ◌<◌, ◌+◌, ◌∷◌, ◌∙◌, ap, sym, arith, take, get_or, length}
use Rattle.std.specs.Prelude.{Some, not, ◌&&◌, option_map}
use Rattle.std.specs.List.{list_all}
use Rattle.std.proofs.lemmas.Bool.{eq-eqb, ne_eqb}
use Rattle.std.proofs.lemmas.List.{drop-drop}
use Rattle.md_lines.specs.Escapes.{before_unescaped, in_line}
use Rattle.md_lines.specs.Lines.{is_blank}
use Rattle.md_lines.specs.LinkParts.{is_bracket}
use Rattle.md_lines.specs.Reading.{lines_after, text_from}
use Rattle.md_lines.specs.Texts.{Part, until}
use Rattle.md_lines.proofs.Parts.{label_ok, label_is, label_found, label_here, label_later}
use Rattle.md_lines.proofs.Parts.{label_too_long, rest_here, rest_later}
use Rattle.md_lines.proofs.link.read_label.Goals as goal

pub returns-then-count-gt-MOST_IN_LABEL-clause-valid :
    goal.returns-then-count-gt-MOST_IN_LABEL-clause-valid
returns-then-count-gt-MOST_IN_LABEL-clause-valid c =
    let cursor = c.loop-count.cursor in
    let inv = c.loop-count.invariant in
    let line = in_line cursor in
    let lines = lines_after cursor in
    let count = c.loop-count.count in
    let was_blank = c.loop-count.is_blank in
    let n = c.label_length-length.result in
    let same = c.rest_of_line-text.ensures in
    sym (label_is (until is_bracket (text_from c.args.cursor.now)) ∙ inv.valid
    ∙ label_too_long count n was_blank line lines
    (omega (arith, c.label_length-length.ensures.none_passed, ap (before_unescaped is_bracket) same))
    (omega arith))

pub returns-then-text-length-clause-valid : goal.returns-then-text-length-clause-valid
returns-then-text-length-clause-valid c =
    let cursor = c.loop-count.cursor in
    let inv = c.loop-count.invariant in
    let line = in_line cursor in
    let lines = lines_after cursor in
    let count = c.loop-count.count in
    let was_blank = c.loop-count.is_blank in
    let n = c.label_length-length.result in
    let same = c.rest_of_line-text.ensures in
    let is : n ≡ before_unescaped is_bracket line =
    c.label_length-length.ensures.first (omega arith) ∙ ap (before_unescaped is_bracket) same in
    let blank : c.is_blank_before-is_blank.result ≡ list_all is_blank (take n line) =
    c.is_blank_before-is_blank.ensures ∙ ap (λ xs. list_all is_blank (take n xs)) same in
    let closes : get_or line n 0 ≡ 93 =
    ap (λ xs. get_or xs n 0) (sym same) ∙ c.if-text-length.true in
    sym (label_is (until is_bracket (text_from c.args.cursor.now)) ∙ inv.valid
    ∙ label_here count n was_blank line lines is (omega (arith, c.if-length-text.true, ap length same))
    (omega arith)
    ∙ ap (λ b. b && not (was_blank && list_all is_blank (take n line))) (eq-eqb _ 93 closes)
    ∙ ap (λ b. not (was_blank && b)) (sym blank))

pub returns-then-text-length-clause-found : goal.returns-then-text-length-clause-found
returns-then-text-length-clause-found c valid =
    let cursor = c.loop-count.cursor in
    let inv = c.loop-count.invariant in
    let line = in_line cursor in
    let lines = lines_after cursor in
    let count = c.loop-count.count in
    let was_blank = c.loop-count.is_blank in
    let n = c.label_length-length.result in
    let same = c.rest_of_line-text.ensures in
    let is : n ≡ before_unescaped is_bracket line =
    c.label_length-length.ensures.first (omega arith) ∙ ap (before_unescaped is_bracket) same in
    let blank : c.is_blank_before-is_blank.result ≡ list_all is_blank (take n line) =
    c.is_blank_before-is_blank.ensures ∙ ap (λ xs. list_all is_blank (take n xs)) same in
    let closes : get_or line n 0 ≡ 93 =
    ap (λ xs. get_or xs n 0) (sym same) ∙ c.if-text-length.true in
    let within : n < length line = omega (arith, c.if-length-text.true, ap length same) in
    let ok = inv.valid ∙ label_here count n was_blank line lines is within (omega arith)
    ∙ ap (λ b. b && not (was_blank && list_all is_blank (take n line))) (eq-eqb _ 93 closes)
    ∙ ap (λ b. not (was_blank && b)) (sym blank) ∙ valid in
    label_found (text_from c.args.cursor.now) _ ok (inv.rest ∙ rest_here line n lines is within
    ∙ ap (λ xs. Some (xs ∷ lines)) (drop-drop n cursor.at (take cursor.end cursor.bytes.now)))

pub returns-else-text-length-clause-valid : goal.returns-else-text-length-clause-valid
returns-else-text-length-clause-valid c =
    let cursor = c.loop-count.cursor in
    let inv = c.loop-count.invariant in
    let line = in_line cursor in
    let lines = lines_after cursor in
    let count = c.loop-count.count in
    let was_blank = c.loop-count.is_blank in
    let n = c.label_length-length.result in
    let same = c.rest_of_line-text.ensures in
    let is : n ≡ before_unescaped is_bracket line =
    c.label_length-length.ensures.first (omega arith) ∙ ap (before_unescaped is_bracket) same in
    let blank : c.is_blank_before-is_blank.result ≡ list_all is_blank (take n line) =
    c.is_blank_before-is_blank.ensures ∙ ap (λ xs. list_all is_blank (take n xs)) same in
    let other = λ (closes : get_or line n 0 ≡ 93).
    c.if-text-length.false (ap (λ xs. get_or xs n 0) same ∙ closes) in
    ne_eqb _ 93 c.if-text-length.false ∙ sym (label_is (until is_bracket (text_from c.args.cursor.now)) ∙ inv.valid
    ∙ label_here count n was_blank line lines is (omega (arith, c.if-length-text.true, ap length same))
    (omega arith)
    ∙ ap (λ b. b && not (was_blank && list_all is_blank (take n line))) (ne_eqb _ 93 other))

pub loop-count-preserved : goal.loop-count-preserved
loop-count-preserved c =
    let cursor = c.loop-count.cursor in
    let inv = c.loop-count.invariant in
    let line = in_line cursor in
    let lines = lines_after cursor in
    let count = c.loop-count.count in
    let was_blank = c.loop-count.is_blank in
    let n = c.label_length-length.result in
    let same = c.rest_of_line-text.ensures in
    let is : n ≡ before_unescaped is_bracket line =
    c.label_length-length.ensures.first (omega arith) ∙ ap (before_unescaped is_bracket) same in
    let blank : c.is_blank_before-is_blank.result ≡ list_all is_blank (take n line) =
    c.is_blank_before-is_blank.ensures ∙ ap (λ xs. list_all is_blank (take n xs)) same in
    let over : length line ≤ n = omega (arith, c.if-length-text.false, ap length same) in
    let e = c.next_line.ensures in
    let next = sym (e.text c.if-not-next_line.false) in record {
      few = omega arith;
      valid = inv.valid ∙ label_later count n was_blank line lines is over
          ∙ ap (λ b. label_ok (count + n + 1) (was_blank && b) (until is_bracket lines)) (sym blank)
          ∙ ap (λ text. label_ok (count + n + 1) (was_blank && c.is_blank_before-is_blank.result)
          (until is_bracket text)) next;
      rest = inv.rest ∙ rest_later n line lines is over
          ∙ ap (λ text. option_map (λ (part : Part). part.rest) (until is_bracket text))
          next;
      same = (e.same.0 ∙ inv.same.0, e.same.1 ∙ inv.same.1, omega arith);
    }

pub returns-clause-valid : goal.returns-clause-valid
returns-clause-valid c =
    let cursor = c.loop-count.cursor in
    sym (label_is (until is_bracket (text_from c.args.cursor.now)) ∙ c.loop-count.invariant.valid
    ∙ label_too_long c.loop-count.count 0 c.loop-count.is_blank (in_line cursor) (lines_after cursor)
    (omega arith) (omega arith))
