-- A converted reference is appended to those before it; the first invalid one is reported; at the
-- end all are converted. The search alone takes long.
use Rattle.std.proofs.Common.{◌∷◌, [], length, sym, ap, ◌∙◌}
use Rattle.std.proofs.lemmas.List.{length-map, map-append}
use Rattle.md_base.specs.Reference.{name_table}
use Rattle.md_abi.specs.References.{reference_of, pair_of}
use Rattle.md_abi.proofs.StandingLemmas.{one_more, first_without, all_read}
use Rattle.md_abi.proofs.reference.read_references.Goals as goal

pub loop-reference-preserved : goal.loop-reference-preserved
loop-reference-preserved c =
    let read = c.loop-reference.read.items in
    let pair = c.in-Some.pair in
    one_more reference_of c.args.references.now c.loop-reference.reference-index (name_table read)
    c.loop-reference.invariant _ (pair_of pair) _ c.loop-reference-test.true c.in-Some.ensures
    (ap name_table c.in_ok-add_pair-in-Some.ensures ∙ map-append pair_of read (pair ∷ []))

pub returns-in-None-clause-err : goal.returns-in-None-clause-err
returns-in-None-clause-err c =
    let read = c.loop-reference.read.items in
    first_without reference_of c.args.references.now
    c.loop-reference.reference-index (name_table read)
    c.loop-reference.invariant _ _ c.loop-reference-test.true c.in-None.ensures
    (ap length c.as_slice.ensures.value ∙ sym (length-map read pair_of))

pub returns-clause-ok : goal.returns-clause-ok
returns-clause-ok c =
    all_read reference_of c.args.references.now c.loop-reference.reference-index
    (name_table c.loop-reference.read.items) c.loop-reference.invariant c.loop-reference-test.false
