-- The destination, and what follows it.
use Rattle.std.proofs.Common.{◌≡◌, ◌∙◌, ap, sym, subst}
use Rattle.std.specs.Prelude.{IfNone, IfSome, None, Some, option_map, if◌then◌else◌}
use Rattle.md_lines.specs.Escapes.{in_line}
use Rattle.md_lines.specs.LinkParts.{destination_at}
use Rattle.md_lines.specs.Reading.{lines_after, text_from, text_in}
use Rattle.md_lines.specs.Texts.{begins_with}
use Rattle.md_blocks.specs.declared.definition.Target.{Target as Read}
use Rattle.md_blocks.specs.LinkDefinitions.{Target, target_after, titled}
use Rattle.md_blocks.proofs.LinkLemmas.{destination_kept, target_is}
use Rattle.md_blocks.proofs.definition.read_destination_and_title.Goals as goal

pub returns-in_default-clause-none : goal.returns-in_default-clause-none
returns-in_default-clause-none c =
    let old = c.args.cursor.now in
    ap (λ o. target_after (begins_with 60 (text_from old)) o (lines_after old)) c.in_default.ensures.none

pub returns-clause-found : goal.returns-clause-found
returns-clause-found c =
    let old = c.args.cursor.now in
    let behind = c.read_destination.new.cursor in
    let span = c.in-Some.destination in
    let is_pointed = c.is_next-is_pointed.result in
    let whole = ap (λ p. target_after p (destination_at (in_line old)) (lines_after old))
    (sym c.is_next-is_pointed.ensures)
    ∙ target_is (in_line old) (lines_after old) (text_in span old) (in_line behind)
    (lines_after behind) is_pointed span.start span.end c.is_missing.result
    c.in-Some.ensures.found c.read_destination.ensures.later c.in-Some.ensures.long span.in_order
    c.is_missing.ensures
    ∙ ap (λ b. if b then None else titled (text_in span old) (text_from behind))
    c.if-is_missing.false in
    subst (λ t. IfSome c.read_end.result (λ _. option_map (λ (target : Target). target.rest) t
    ≡ Some (lines_after c.read_end.new.cursor))) (sym whole)
    (c.read_end.ensures.found (text_in span old))

pub returns-clause-none : goal.returns-clause-none
returns-clause-none c =
    let old = c.args.cursor.now in
    let behind = c.read_destination.new.cursor in
    let span = c.in-Some.destination in
    let is_pointed = c.is_next-is_pointed.result in
    let whole = ap (λ p. target_after p (destination_at (in_line old)) (lines_after old))
    (sym c.is_next-is_pointed.ensures)
    ∙ target_is (in_line old) (lines_after old) (text_in span old) (in_line behind)
    (lines_after behind) is_pointed span.start span.end c.is_missing.result
    c.in-Some.ensures.found c.read_destination.ensures.later c.in-Some.ensures.long span.in_order
    c.is_missing.ensures
    ∙ ap (λ b. if b then None else titled (text_in span old) (text_from behind))
    c.if-is_missing.false in
    subst (λ t. IfNone c.read_end.result (t ≡ None)) (sym whole)
    (c.read_end.ensures.none (text_in span old))

pub returns-clause-destination : goal.returns-clause-destination
returns-clause-destination c =
    let old = c.args.cursor.now in
    let behind = c.read_destination.new.cursor in
    let span = c.in-Some.destination in
    let is_pointed = c.is_next-is_pointed.result in
    let whole = ap (λ p. target_after p (destination_at (in_line old)) (lines_after old))
    (sym c.is_next-is_pointed.ensures)
    ∙ target_is (in_line old) (lines_after old) (text_in span old) (in_line behind)
    (lines_after behind) is_pointed span.start span.end c.is_missing.result
    c.in-Some.ensures.found c.read_destination.ensures.later c.in-Some.ensures.long span.in_order
    c.is_missing.ensures
    ∙ ap (λ b. if b then None else titled (text_in span old) (text_from behind))
    c.if-is_missing.false in
    subst (λ t. IfSome c.read_end.result (λ read. option_map (λ (target : Target). target.destination) t
    ≡ Some (text_in read.destination old))) (sym whole)
    (destination_kept c.read_end.result (λ (read : Read). read.destination) span
    (λ part. text_in part old) (text_from behind) _ (c.read_end.ensures.found (text_in span old))
    c.read_end.ensures.kept)
