-- Lane by lane, a byte is marked just where a protocol doesn't go on.
use Rattle.std.proofs.Common.{ℕ, bit_or, eqb, cond, refl}
use Rattle.std.proofs.lemmas.Simd.{length-chunk, zip2_splat, zip2_of_maps}
use lib.Lanes.{chunk}
use Rattle.md_text.specs.Kept.{goes_on}
use Rattle.md_text.proofs.RunLemmas.{run_is}
use Rattle.md_text.proofs.url.protocol.GoesOnLaneTest.run_in.Goals as goal

pub returns : goal.returns
returns g c =
    let n = g.row.N in
    let bytes = c.args.bytes.now in
    let at = c.args.at in
    let v = chunk at n bytes in
    let long = length-chunk at n bytes c.requires.1 in
    let equal = λ (x : ℕ). zip2_splat {Z = ℕ} (λ a b. cond (eqb a b) 255 0) v n x long in
    run_is goes_on bytes at n _ _ c.requires.1 c.requires.0 c.type_inv.bytes c.first_set.ensures _
    (zip2_of_maps bit_or _ _ v
    (zip2_of_maps bit_or _ _ v (zip2_of_maps bit_or _ _ v (equal _) (equal _)) (equal _))
    (equal _)) refl
