-- A valid line is one step of progress; the line that ends the script, an invalid one or the
-- input's end decides the result. The search alone doesn't derive the meaning of all lines from the
-- last one.
use Rattle.std.proofs.Common.{rules, ◌≡◌, ℕ, ◌+◌, List, refl, sym, ◌∙◌, subst, arith, length}
use Rattle.std.specs.Borrow.{Bor}
use Rattle.std.proofs.lemmas.List.{length-map}
use Rattle.md_script.specs.Setting.{texts_of, HasOptions}
use Rattle.md_script.specs.Script.{Explains}
use Rattle.md_script.specs.declared.error.RunError.TheVariants.{Line}
use Rattle.md_script.proofs.ScriptLemmas.{line_more, plain_more, script_ends_at, line_stops}
use Rattle.md_script.proofs.ScriptLemmas.{input_stops}
use Rattle.md_script.proofs.script.read_script.Goals as goal

pub returns-then-is_end-clause-ok : goal.returns-then-is_end-clause-ok
returns-then-is_end-clause-ok c =
    script_ends_at c.lines.invariant c.first_line.result.0.now c.first_line.result.1
    c.unwrap_or-document.result _ c.in_ok-options.options
    c.first_line.ensures.lines (sym c.if-is_end.ensures) c.unwrap_or-document.ensures refl
    (subst (λ items. HasOptions (texts_of items) c.in_ok-options.options) c.as_slice.ensures.value
    c.in_ok-options.ensures)

pub returns-then-not-branch-clause-err : goal.returns-then-not-branch-clause-err
returns-then-not-branch-clause-err c =
    let same : length c.lines.events.items + length (texts_of c.lines.settings.items) + 1
    ≡ c.len.result + c.len-in-lines.result + 1 =
    omega (
      arith,
      c.len.ensures,
      c.len-in-lines.ensures,
      length-map c.lines.settings.items (λ (t : Bor (List ℕ)). t.now),
    ) in
    subst (λ n. Explains c.args.input.now (Line n)) same
    (line_stops c.lines.invariant c.first_line.result.0.now c.first_line.result.1
    c.first_line.ensures.lines (sym c.if-is_end.ensures)
    (sym c.in_ok-take_line.ensures.taken ∙ c.if-not-branch.true))

pub returns-in_default-following-clause-err : goal.returns-in_default-following-clause-err
returns-in_default-following-clause-err c =
    let same : length c.lines.events.items + length (texts_of c.lines.settings.items) + 1 + 1
    ≡ c.len.result + c.len-in-lines.result + 2 =
    omega (
      arith,
      c.len.ensures,
      c.len-in-lines.ensures,
      length-map c.lines.settings.items (λ (t : Bor (List ℕ)). t.now),
    ) in
    subst (λ n. Explains c.args.input.now (Line n)) same
    (input_stops c.lines.invariant c.first_line.result.0.now
    (rw c.in_default-following.is at c.first_line.ensures.lines)
    (sym c.in_ok-take_line.ensures.taken ∙ c.if-not-branch.false))

pub lines-preserved-in-Some : goal.lines-preserved-in-Some
lines-preserved-in-Some c =
    rw c.in_ok-keep_event.ensures (plain_more c.lines.invariant c.in-Some.event
    c.in-Some.following.now c.in-Some.ensures)

pub lines-preserved-in-Some-read_plain_line : goal.lines-preserved-in-Some-read_plain_line
lines-preserved-in-Some-read_plain_line c =
    let read = c.in-Some-read_plain_line in
    rw c.in_ok-keep_event-2.ensures
    (plain_more c.lines.invariant read.event read.following.now read.ensures)

pub lines-preserved : goal.lines-preserved
lines-preserved c =
    rw (c.in_ok-take_line.ensures.events, c.in_ok-take_line.ensures.settings c.if-not-branch.false)
    (line_more c.lines.invariant c.first_line.result.0.now c.in-Some-following.following.now
    (rw c.in-Some-following.is at c.first_line.ensures.lines)
    (rw c.in-Some-following.is at c.first_line.ensures.len)
    (sym c.in_ok-take_line.ensures.taken ∙ c.if-not-branch.false))

-- The one search that proves this: it refuses a mutant in a second.
pub lines-init : goal.lines-init
lines-init c = search rules
