-- A number that isn't free is one more that is taken.
use Rattle.std.proofs.Common.{◌≡◌, ◌≤◌, ◌+◌, true, length, refl, sym, ap, ◌∙◌, arith}
use Rattle.std.specs.BTreeSet.{contains_text}
use Rattle.md_page.specs.GivenIds.{written_id}
use Rattle.md_slugs.specs.Chosen.{numbered}
use Rattle.md_slugs.proofs.Numbers.{AreTaken, more-taken, turn, is-taken}
use Rattle.md_slugs.proofs.free.free_number.Goals as goal

pub loop-id-smaller : goal.loop-id-smaller
loop-id-smaller c =
    let taken = c.args.taken.now in
    let base = c.args.base.now in
    let first = c.min-first.result in
    let number = c.loop-id.number in
    let one : contains_text taken (written_id (numbered base number)) ≡ true =
    ap (λ id. contains_text taken (written_id id))
    (sym (c.as_str.ensures.value ∙ c.in_ok-id.ensures))
    ∙ is-taken (contains_text taken (written_id c.as_str.result.now)) c.in_ok-is_free.field-0
    c.in_ok-is_free.ensures c.if-branch.false in
    let more : AreTaken taken base first (number + 1) =
    more-taken taken base first number (number + 1) refl c.loop-id.invariant.2 one in
    let low : number + 1 ≤ first + length taken.keys =
    turn taken base first number c.loop-id.invariant.0 (omega (
      arith,
      c.loop-id.invariant.1,
      c.min-first.ensures,
      c.len.ensures.len,
      c.len.ensures.small,
    )) more in
    omega (arith, low)

pub loop-id-preserved : goal.loop-id-preserved
loop-id-preserved c =
    let taken = c.args.taken.now in
    let base = c.args.base.now in
    let first = c.min-first.result in
    let number = c.loop-id.number in
    let one : contains_text taken (written_id (numbered base number)) ≡ true =
    ap (λ id. contains_text taken (written_id id))
    (sym (c.as_str.ensures.value ∙ c.in_ok-id.ensures))
    ∙ is-taken (contains_text taken (written_id c.as_str.result.now)) c.in_ok-is_free.field-0
    c.in_ok-is_free.ensures c.if-branch.false in
    let more : AreTaken taken base first (number + 1) =
    more-taken taken base first number (number + 1) refl c.loop-id.invariant.2 one in (
      omega (arith, c.loop-id.invariant.0),
      turn taken base first number c.loop-id.invariant.0 (omega (
        arith,
        c.loop-id.invariant.1,
        c.min-first.ensures,
        c.len.ensures.len,
        c.len.ensures.small,
      )) more,
      more,
    )
