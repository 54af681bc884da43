-- The converted input is what C's input encodes, also as slices: so the promise of `compile_read`
-- holds for C's arguments. The search alone doesn't carry it from one to the other.
use Rattle.std.specs.Prelude.{string_bytes}
use Rattle.md_abi.proofs.GivenLemmas.{read_as, text_given, refusal_given}
use Rattle.md_abi.proofs.given.compile_given.Goals as goal

pub returns-clause-ok : goal.returns-clause-ok
returns-clause-ok c =
    let read = read_as _ _ _ _ _ _ _ _ c.as_slice.ensures.value c.as_slice-2.ensures.value
    c.in_ok-events.ensures.ok c.in_ok-options.ensures.ok c.in_ok-names.ensures.ok in
    text_given _ c.args.given.bytes.now _ _ _ _ _ read string_bytes c.compile_read.result
    c.compile_read.ensures.ok

pub returns-clause-err : goal.returns-clause-err
returns-clause-err c =
    let read = read_as _ _ _ _ _ _ _ _ c.as_slice.ensures.value c.as_slice-2.ensures.value
    c.in_ok-events.ensures.ok c.in_ok-options.ensures.ok c.in_ok-names.ensures.ok in
    refusal_given _ c.args.given.bytes.now _ _ _ _ _ read c.compile_read.result
    c.compile_read.ensures.err
