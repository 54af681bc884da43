-- Part by part.
use Rattle.std.proofs.Common.{◌≡◌, ◌∙◌, ap, sym, subst, refl, length, drop, suc, List, ℕ, Bor, get_or}
use Rattle.std.specs.Prelude.{IfSome, Some, map, option_map, string_bytes, vec_len}
use Rattle.std.proofs.lemmas.Option.{slice_get_read}
use Rattle.md_lines.specs.declared.line.Line.{Line as Place}
use Rattle.md_lines.specs.LinkParts.{label_at}
use Rattle.md_lines.specs.Reading.{line_text, text_from}
use Rattle.md_lines.specs.Texts.{Part, after_next, begins_with, text_before}
use Rattle.md_blocks.specs.LinkDefinitions.{Target, target_at}
use Rattle.md_blocks.specs.Passes.{texts_from}
use Rattle.md_blocks.specs.Tapes.{text_between}
use Rattle.md_blocks.proofs.LinkLemmas.{with_destination, with_rest, without_form}
use Rattle.md_blocks.proofs.definition.read_definition.Goals as goal

pub returns-in_default-2-clause-none : goal.returns-in_default-2-clause-none
returns-in_default-2-clause-none c =
    let bytes = c.args.bytes.now in
    let lines = c.args.lines.now in
    let text = texts_from bytes lines c.args.line in
    let start = subst (λ o. IfSome o (λ (line : Place).
    (get_or lines c.args.line c.index-lines-line.result).start ≡ line.start
    → text_from c.new-cursor.result ≡ text))
    (slice_get_read lines (length lines) c.args.line c.index-lines-line.result refl c.requires
    c.index-lines-line.is) c.new-cursor.ensures.text
    (ap (λ (line : Place). line.start) (sym c.index-lines-line.is)) in
    let opens = ap (begins_with 91) (sym start) ∙ sym c.take.ensures.is_there ∙ c.if-not-take.false in
    let inside = text_from c.take.new.self in
    let behind = text_from c.read_label.new.cursor in
    let label : Part = record { text = text_before inside behind; rest = after_next behind } in
    let found = ap label_at (ap after_next (sym start) ∙ sym (c.take.ensures.text c.if-not-take.false))
    ∙ c.read_label.ensures.found c.if-not-read_label.false in
    without_form text opens label found
    (sym c.in_ok-label.ensures ∙ ap (λ o. option_map string_bytes o) c.in_default-2.is)

pub returns-clause-found : goal.returns-clause-found
returns-clause-found c =
    let bytes = c.args.bytes.now in
    let lines = c.args.lines.now in
    let text = texts_from bytes lines c.args.line in
    let start = subst (λ o. IfSome o (λ (line : Place).
    (get_or lines c.args.line c.index-lines-line.result).start ≡ line.start
    → text_from c.new-cursor.result ≡ text))
    (slice_get_read lines (length lines) c.args.line c.index-lines-line.result refl c.requires
    c.index-lines-line.is) c.new-cursor.ensures.text
    (ap (λ (line : Place). line.start) (sym c.index-lines-line.is)) in
    let opens = ap (begins_with 91) (sym start) ∙ sym c.take.ensures.is_there ∙ c.if-not-take.false in
    let inside = text_from c.take.new.self in
    let behind = text_from c.read_label.new.cursor in
    let label : Part = record { text = text_before inside behind; rest = after_next behind } in
    let found = ap label_at (ap after_next (sym start) ∙ sym (c.take.ensures.text c.if-not-take.false))
    ∙ c.read_label.ensures.found c.if-not-read_label.false in
    let last = c.read_target.new.cursor in
    let same_bytes = ap (λ (x : Bor (List ℕ)). x.now) (c.read_target.ensures.same.0
    ∙ c.advance.ensures.same.0 ∙ c.read_label.ensures.same.0 ∙ c.take.ensures.same_text.0)
    ∙ c.new-cursor.ensures.document in
    let same_lines = ap (λ (x : Bor (List Place)). x.now) (c.read_target.ensures.same.1
    ∙ c.advance.ensures.same.1 ∙ c.read_label.ensures.same.1 ∙ c.take.ensures.same_text.1)
    ∙ c.new-cursor.ensures.lines in
    with_rest text opens label _ (string_bytes c.in-Some-2.label) found
    (ap (λ t. option_map (λ (target : Target). target.rest) (target_at t)) (sym c.advance.ensures.text)
    ∙ c.in-Some.ensures.found)
    (sym c.in_ok-label.ensures ∙ ap (λ o. option_map string_bytes o) c.in-Some-2.is)
    ∙ ap (λ b. Some (map (line_text b) (drop (suc last.line) last.lines.now))) same_bytes
    ∙ ap (λ ls. Some (map (line_text bytes) (drop (suc last.line) ls))) same_lines
    ∙ ap (λ n. Some (map (line_text bytes) (drop n lines))) (sym c.next_index.ensures)

pub returns-clause-kept : goal.returns-clause-kept
returns-clause-kept c =
    let bytes = c.args.bytes.now in
    let lines = c.args.lines.now in
    let text = texts_from bytes lines c.args.line in
    let start = subst (λ o. IfSome o (λ (line : Place).
    (get_or lines c.args.line c.index-lines-line.result).start ≡ line.start
    → text_from c.new-cursor.result ≡ text))
    (slice_get_read lines (length lines) c.args.line c.index-lines-line.result refl c.requires
    c.index-lines-line.is) c.new-cursor.ensures.text
    (ap (λ (line : Place). line.start) (sym c.index-lines-line.is)) in
    let opens = ap (begins_with 91) (sym start) ∙ sym c.take.ensures.is_there ∙ c.if-not-take.false in
    let inside = text_from c.take.new.self in
    let behind = text_from c.read_label.new.cursor in
    let label : Part = record { text = text_before inside behind; rest = after_next behind } in
    let found = ap label_at (ap after_next (sym start) ∙ sym (c.take.ensures.text c.if-not-take.false))
    ∙ c.read_label.ensures.found c.if-not-read_label.false in
    let same_bytes = ap (λ (x : Bor (List ℕ)). x.now) (c.advance.ensures.same.0
    ∙ c.read_label.ensures.same.0 ∙ c.take.ensures.same_text.0)
    ∙ c.new-cursor.ensures.document in
    let span = c.in-Some.target.destination in (
      record c.definition_of.result { index = vec_len c.args.definitions.now.list },
      c.in_ok-add.ensures.list,
      with_destination text opens label _ (string_bytes c.in-Some-2.label) found
          (ap (λ t. option_map (λ (target : Target). target.destination) (target_at t))
          (sym c.advance.ensures.text) ∙ c.in-Some.ensures.destination)
          (sym c.in_ok-label.ensures ∙ ap (λ o. option_map string_bytes o) c.in-Some-2.is)
          ∙ ap (λ b. Some (text_between span b)) same_bytes
          ∙ ap (λ s. Some (text_between s bytes)) (sym c.definition_of.ensures.destination),
    )
