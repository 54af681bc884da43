-- The lower half of a byte is an index of the table.
use Rattle.std.proofs.Common.{replicate, bit_and, refl, arith, w8}
use Rattle.std.proofs.lemmas.Simd.{length-zip2, SwzOk-from_below}
use Rattle.md_marks.proofs.MarkTables.{lower-small, by-lower}
use Rattle.md_marks.proofs.marks.by_lower_half.Goals as goal

pub swizzle : goal.swizzle
swizzle c = SwzOk-from_below w8 16 2 32 0 _ refl
    (omega (arith, length-zip2 bit_and c.args.block (replicate 32 15) c.fits-block.0))
    (lower-small c.args.block)

pub returns : goal.returns
returns c = by-lower c.args.block c.fits-block.0
