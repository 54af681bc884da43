-- Definition by definition.
use Rattle.std.proofs.Common.{◌≡◌, ◌<◌, ◌+◌, ◌∙◌, ap, sym, subst, arith, suc}
use Rattle.std.specs.Prelude.{IfNone, IfSome, None, Some, option_map}
use Rattle.md_lines.specs.Texts.{begins_with}
use Rattle.md_blocks.specs.LinkDefinitions.{Definition, defined_from, definition_at}
use Rattle.md_blocks.specs.Passes.{texts_from}
use Rattle.md_blocks.proofs.LinkLemmas.{all_read, none_defined, not_opened, one_defined, texts_at}
use Rattle.md_blocks.proofs.closing.after_definitions.Goals as goal

pub definitions-preserved : goal.definitions-preserved
definitions-preserved c =
    let bytes = c.args.bytes.now in
    let lines = c.args.lines.now in
    let at = c.definitions.at in
    let inv = c.definitions.invariant in
    let next = c.in-Some.next in
    let forward = subst (λ o. IfSome o (λ next. at < next)) c.in-Some.is c.in_ok-next.ensures.after in
    let found = subst (λ o. IfSome o (λ next. option_map (λ (definition : Definition). definition.rest)
    (definition_at (texts_from bytes lines at)) ≡ Some (texts_from bytes lines next))) c.in-Some.is
    c.in_ok-next.ensures.found in
    let whole = c.definitions-test.true in record {
      after = omega (arith, inv.after, forward, whole, c.min-at.ensures);
      within = omega (arith, c.min-at.ensures);
      rest = inv.rest ∙ one_defined bytes lines at next whole forward found
          ∙ ap (λ n. n + defined_from 0 (texts_from bytes lines n)) (sym c.min-at.ensures);
    }

pub returns-in-None-clause-value : goal.returns-in-None-clause-value
returns-in-None-clause-value c =
    let text = texts_from c.args.bytes.now c.args.lines.now c.definitions.at in
    let none = subst (λ o. IfNone o (definition_at text ≡ None)) c.in-None.is c.in_ok-next.ensures.none in
    omega (arith, c.definitions.invariant.rest, none_defined text none)

pub returns-else-begins_with_bracket-clause-value :
    goal.returns-else-begins_with_bracket-clause-value
returns-else-begins_with_bracket-clause-value c =
    let bytes = c.args.bytes.now in
    let lines = c.args.lines.now in
    let at = c.definitions.at in
    let text = texts_from bytes lines at in
    let other = ap (begins_with 91) (texts_at bytes lines at c.index-lines-at.result
    c.definitions-test.true c.index-lines-at.is)
    ∙ sym (c.begins_with_bracket.ensures (texts_from bytes lines (suc at)))
    ∙ c.if-begins_with_bracket.false in
    omega (arith, c.definitions.invariant.rest, none_defined text (not_opened text other))

pub returns-after-definitions-clause-value : goal.returns-after-definitions-clause-value
returns-after-definitions-clause-value c =
    omega (
      arith,
      c.definitions.invariant.rest,
      all_read c.args.bytes.now c.args.lines.now c.definitions.at c.definitions-test.false,
    )
