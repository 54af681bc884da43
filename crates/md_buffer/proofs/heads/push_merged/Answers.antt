-- A head that fits has its offset and its text at character boundaries, and is inserted before the
-- text after its offset. The search alone doesn't find that the rest fits.
use Rattle.std.proofs.Common.{◌≤◌, List, length, arith, subst, append_assoc}
use Rattle.std.proofs.lemmas.Str.{IsCharBoundary-from_take}
use Rattle.md_buffer.specs.declared.heads.Head.{Head}
use Rattle.md_buffer.specs.Waiting.{Fit, IsHead}
use Rattle.md_buffer.proofs.HeadsFit.{fit-boundary}
use Rattle.md_buffer.proofs.Merged.{between}
use Rattle.md_buffer.proofs.heads.push_merged.Goals as goal

pub range-requires-clause-start_boundary : goal.range-requires-clause-start_boundary
range-requires-clause-start_boundary c = grind (arith, fit-boundary)

pub range-requires-clause-end_boundary : goal.range-requires-clause-end_boundary
range-requires-clause-end_boundary c = grind (arith, fit-boundary)

pub range-requires-in-Some-clause-start_boundary : goal.range-requires-in-Some-clause-start_boundary
range-requires-in-Some-clause-start_boundary c =
    let text = c.args.text.now in
    let head : Head = c.in-Some.head.now in
    let fit =
    subst (λ (ws : List Head). Fit text c.args.heads.now (length text) c.loop-head.done ws)
    c.in-Some.ensures.cases.0 c.loop-head.invariant.fit in
    let is : IsHead c.args.heads.now head = fit.2 in
    λ positive. IsCharBoundary-from_take c.args.heads.now head.from c.utf8.heads
    (let a : head.from ≤ head.to = is.ordered in
    let b : head.to ≤ length c.args.heads.now = is.within in omega arith) is.from

pub range-requires-in-Some-clause-end_boundary : goal.range-requires-in-Some-clause-end_boundary
range-requires-in-Some-clause-end_boundary c =
    let text = c.args.text.now in
    let head : Head = c.in-Some.head.now in
    let fit =
    subst (λ (ws : List Head). Fit text c.args.heads.now (length text) c.loop-head.done ws)
    c.in-Some.ensures.cases.0 c.loop-head.invariant.fit in
    let is : IsHead c.args.heads.now head = fit.2 in
    IsCharBoundary-from_take c.args.heads.now head.to c.utf8.heads is.within is.to

pub loop-head-preserved : goal.loop-head-preserved
loop-head-preserved c = grind (arith, between, append_assoc)

pub range_from-requires : goal.range_from-requires
range_from-requires c = grind (arith, fit-boundary)
