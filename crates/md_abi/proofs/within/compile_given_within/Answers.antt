-- The converted input is what C's input encodes, also as slices: so the promise of
-- `compile_read_within` holds for C's arguments. The search alone doesn't carry it from one to the
-- other.
use Rattle.std.proofs.Common.{refl}
use Rattle.std.specs.Prelude.{string_bytes}
use Rattle.md_abi.proofs.GivenLemmas.{read_as}
use Rattle.md_abi.proofs.WithinLemmas.{text_within, bounded_within, shallow_within}
use Rattle.md_abi.proofs.WithinLemmas.{failure_given}
use Rattle.md_abi.proofs.within.compile_given_within.Goals as goal

pub returns-clause-ok : goal.returns-clause-ok
returns-clause-ok c =
    let read = read_as _ _ _ _ _ _ _ _ c.as_slice.ensures.value c.as_slice-2.ensures.value
    c.in_ok-events.ensures.ok c.in_ok-options.ensures.ok c.in_ok-names.ensures.ok in
    text_within _ c.args.given.bytes.now _ _ _ _ _ c.args.limits.now _ read string_bytes
    c.compile_read_within.result refl refl c.depth_limit.ensures c.compile_read_within.ensures.ok

pub returns-clause-bounded : goal.returns-clause-bounded
returns-clause-bounded c =
    let read = read_as _ _ _ _ _ _ _ _ c.as_slice.ensures.value c.as_slice-2.ensures.value
    c.in_ok-events.ensures.ok c.in_ok-options.ensures.ok c.in_ok-names.ensures.ok in
    bounded_within _ c.args.given.bytes.now _ _ _ _ _ c.args.limits.now _ read string_bytes
    c.compile_read_within.result refl c.compile_read_within.ensures.ok

pub returns-clause-shallow : goal.returns-clause-shallow
returns-clause-shallow c =
    let read = read_as _ _ _ _ _ _ _ _ c.as_slice.ensures.value c.as_slice-2.ensures.value
    c.in_ok-events.ensures.ok c.in_ok-options.ensures.ok c.in_ok-names.ensures.ok in
    shallow_within _ c.args.given.bytes.now _ _ _ _ _ c.args.limits.now _ read string_bytes
    c.compile_read_within.result c.depth_limit.ensures c.compile_read_within.ensures.ok

pub returns-clause-err : goal.returns-clause-err
returns-clause-err c =
    let read = read_as _ _ _ _ _ _ _ _ c.as_slice.ensures.value c.as_slice-2.ensures.value
    c.in_ok-events.ensures.ok c.in_ok-options.ensures.ok c.in_ok-names.ensures.ok in
    failure_given _ c.args.given.bytes.now _ _ _ _ _ c.args.limits.now _ read
    c.compile_read_within.result refl refl c.depth_limit.ensures c.compile_read_within.ensures.err
