-- After an ASCII byte a text may be cut.
use Rattle.std.proofs.Common.{arith}
use Rattle.std.proofs.lemmas.Str.{IsCharBoundary-after_ascii}
use Rattle.md_page.specs.Scan.{IsFirstOf}
use Rattle.md_page.proofs.scan.split_at_byte.Goals as goal

pub range_from-requires : goal.range_from-requires
range_from-requires c =
    let found : IsFirstOf c.args.byte c.args.text.now c.in_ok-at.at =
    rw c.as_bytes.ensures.value at c.in_ok-at.ensures in
    λ later. IsCharBoundary-after_ascii c.args.text.now c.in_ok-at.at c.utf8.text found.within
    (omega (arith, found.is, c.requires))
