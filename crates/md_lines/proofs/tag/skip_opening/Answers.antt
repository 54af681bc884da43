-- An attribute is read, or the tag ends.
use Rattle.std.proofs.Common.{◌∙◌, arith, ap, sym}
use Rattle.std.specs.Prelude.{is_some}
use Rattle.md_lines.specs.Classes.{is_in}
use Rattle.md_lines.specs.declared.class.Class.TheVariants.{Name}
use Rattle.md_lines.specs.Escapes.{in_line}
use Rattle.md_lines.specs.Reading.{lines_after, text_from}
use Rattle.md_lines.specs.Tags.{after_byte, after_run, after_specification, past}
use Rattle.md_lines.proofs.TagLemmas.{ends, fails, goes, none-of}
use Rattle.md_lines.proofs.tag.skip_opening.Goals as goal

pub returns-then-not-skip_attribute-clause-found :
    goal.returns-then-not-skip_attribute-clause-found
returns-then-not-skip_attribute-clause-found c =
    let cursor = c.attributes.cursor in
    let none = none-of _ (sym c.skip_attribute.ensures.found ∙ c.if-not-skip_attribute.true) in
    sym (ap is_some (fails _ (in_line cursor) (lines_after cursor) c.attributes.invariant.alike
    (sym c.skip_to_attribute.ensures.has ∙ c.attributes-test.true)
    (ap (λ text. after_specification (after_run (is_in Name) text))
    (sym c.skip_to_attribute.ensures.text) ∙ none)))

pub attributes-smaller : goal.attributes-smaller
attributes-smaller c =
    let cursor = c.attributes.cursor in
    (goes _ (in_line cursor) (lines_after cursor) (text_from c.skip_attribute.new.cursor)
    c.attributes.invariant.alike (sym c.skip_to_attribute.ensures.has ∙ c.attributes-test.true)
    (ap (λ text. after_specification (after_run (is_in Name) text))
    (sym c.skip_to_attribute.ensures.text)
    ∙ c.skip_attribute.ensures.text c.if-not-skip_attribute.false)).0

pub attributes-preserved : goal.attributes-preserved
attributes-preserved c =
    let cursor = c.attributes.cursor in
    let before = c.attributes.invariant.same in
    let first = c.skip_to_attribute.ensures.same in
    let then = c.skip_attribute.ensures.same in
    record {
      alike = (goes _ (in_line cursor) (lines_after cursor) (text_from c.skip_attribute.new.cursor)
          c.attributes.invariant.alike
          (sym c.skip_to_attribute.ensures.has ∙ c.attributes-test.true)
          (ap (λ text. after_specification (after_run (is_in Name) text))
          (sym c.skip_to_attribute.ensures.text)
          ∙ c.skip_attribute.ensures.text c.if-not-skip_attribute.false)).1;
      same = (
        then.0 ∙ first.0 ∙ before.0,
        then.1 ∙ first.1 ∙ before.1,
        omega (arith, before.2, first.2, then.2),
      );
    }

pub returns-clause-found : goal.returns-clause-found
returns-clause-found c =
    let cursor = c.attributes.cursor in
    c.skip_end.ensures.found
    ∙ ap (λ text. is_some (after_byte 62 (past 47 text))) c.skip_to_attribute.ensures.text
    ∙ sym (ap is_some (ends _ (in_line cursor) (lines_after cursor) c.attributes.invariant.alike
    (sym c.skip_to_attribute.ensures.has ∙ c.attributes-test.false)))

pub returns-clause-text : goal.returns-clause-text
returns-clause-text c = λ found.
    let cursor = c.attributes.cursor in
    ends _ (in_line cursor) (lines_after cursor) c.attributes.invariant.alike
    (sym c.skip_to_attribute.ensures.has ∙ c.attributes-test.false)
    ∙ ap (λ text. after_byte 62 (past 47 text)) (sym c.skip_to_attribute.ensures.text)
    ∙ c.skip_end.ensures.text found
