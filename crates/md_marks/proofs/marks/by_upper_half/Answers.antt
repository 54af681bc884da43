-- The upper half of a byte is an index of the table.
use Rattle.std.proofs.Common.{◌/◌, ◌^◌, ℕ, replicate, refl, arith, w8}
use Rattle.std.proofs.lemmas.Simd.{length-zip2, SwzOk-from_below}
use Rattle.md_marks.proofs.MarkTables.{upper-small, by-upper}
use Rattle.md_marks.proofs.marks.by_upper_half.Goals as goal

pub swizzle : goal.swizzle
swizzle c = SwzOk-from_below w8 16 2 32 0 _ refl
    (omega (arith, length-zip2 (λ (a b : ℕ). a / 2 ^ b) c.args.block (replicate 32 4) c.fits-block.0))
    (upper-small c.args.block c.fits-block.1)

pub returns : goal.returns
returns c = by-upper c.args.block c.fits-block.0 c.fits-block.1
