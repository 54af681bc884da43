-- After an ASCII byte a text may be cut.
use Rattle.std.proofs.Common.{arith}
use Rattle.std.proofs.lemmas.Str.{IsCharBoundary-after_ascii}
use Rattle.md_text.proofs.filter.gfm_tagfilter.Goals as goal

pub range_from-rest-requires : goal.range_from-rest-requires
range_from-rest-requires c =
    let found = rw c.as_bytes.ensures.value at c.in-Some.ensures in
    λ later. IsCharBoundary-after_ascii c.loop-index.rest.now c.in-Some.index
    c.loop-index.invariant.1 found.0 (omega (arith, found.1))
