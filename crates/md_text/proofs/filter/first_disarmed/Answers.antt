-- A `<` that opens no tag to disarm stays, and what comes before the next one.
use Rattle.std.proofs.lemmas.Grind.{common_steps}
use Rattle.std.proofs.Common.{false, ◌≡◌, ◌+◌, ◌-◌, ◌<◌, ◌≤◌, ℕ, List, length, take, drop, ◌∙◌}
use Rattle.std.proofs.Common.{arith, refl}
use Rattle.std.proofs.lemmas.List.{length-drop, take_rest}
use Rattle.std.proofs.lemmas.List.Sums.{prefix_len-le-length}
use Rattle.std.specs.List.{prefix_len}
use Rattle.md_text.specs.Filter.{begins_disarmed_name, past_slash}
use Rattle.md_text.specs.Kept.{opens_no_tag}
use Rattle.md_text.proofs.FilterLemmas.{filtered-run, filtered-angle, angle-at}
use Rattle.md_text.proofs.filter.first_disarmed.Goals as goal

pub loop-at-init : goal.loop-at-init
loop-at-init c =
    let bytes = c.args.bytes.now in
    let run = c.run_length-at.result in
    let is = c.run_length-at.ensures in (
      omega (arith, is, prefix_len-le-length opens_no_tag bytes),
      filtered-run bytes 0 run run (omega arith) (omega (arith, is)),
      λ inside. angle-at bytes 0 run run (omega arith) is inside,
    )

-- how far the next run goes
reaches : (bytes : List ℕ) (at run : ℕ) → at < length bytes →
    run ≡ prefix_len opens_no_tag (take (length bytes - (at + 1)) (drop (at + 1) bytes)) →
    (at + 1 + run ≤ length bytes) × (run ≡ prefix_len opens_no_tag (drop (at + 1) bytes))
reaches bytes at run inside is =
    grind (arith, is, take_rest, prefix_len-le-length, length-drop)

pub overflow_add-at-in-loop-at : goal.overflow_add-at-in-loop-at
overflow_add-at-in-loop-at c =
    let next = reaches c.args.bytes.now c.loop-at.at c.run_length.result c.loop-at-test.true
    c.run_length.ensures in
    record { fits = omega (arith, next.0) }

pub loop-at-preserved : goal.loop-at-preserved
loop-at-preserved c =
    let bytes = c.args.bytes.now in
    let at = c.loop-at.at in
    let inside = c.loop-at-test.true in
    let next = reaches bytes at c.run_length.result inside c.run_length.ensures in
    let other : begins_disarmed_name (past_slash (drop (at + 1) bytes)) ≡ false =
    rw (← take_rest bytes (at + 1)) (grind (arith, common_steps)) in (
      next.0,
      filtered-run bytes (at + 1) _ _ refl (omega (arith, next.1))
          ∙ filtered-angle bytes at inside (c.loop-at.invariant.2 inside) other
          ∙ c.loop-at.invariant.1,
      λ within. angle-at bytes (at + 1) _ _ refl next.1 within,
    )
