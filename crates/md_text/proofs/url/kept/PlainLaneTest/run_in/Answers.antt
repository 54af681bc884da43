-- Lane by lane, a byte is marked just where it isn't plain.
use Rattle.std.proofs.Common.{ℕ, bit_and, bit_or, eqb, ltb, not, cond, refl}
use Rattle.std.proofs.lemmas.Simd.{length-chunk, zip2_splat, zip2_splat_left, zip2_of_maps}
use lib.Lanes.{chunk}
use Rattle.md_text.specs.Kept.{is_plain}
use Rattle.md_text.proofs.RunLemmas.{run_is}
use Rattle.md_text.proofs.url.kept.PlainLaneTest.run_in.Goals as goal

pub returns : goal.returns
returns g c =
    let n = g.row.N in
    let bytes = c.args.bytes.now in
    let at = c.args.at in
    let v = chunk at n bytes in
    let long = length-chunk at n bytes c.requires.1 in
    let equal = λ (x : ℕ). zip2_splat {Z = ℕ} (λ a b. cond (eqb a b) 255 0) v n x long in
    let other = λ (x : ℕ). zip2_splat {Z = ℕ} (λ a b. cond (not (eqb a b)) 255 0) v n x long in
    let below = λ (x : ℕ). zip2_splat {Z = ℕ} (λ a b. cond (ltb a b) 255 0) v n x long in
    let above = λ (x : ℕ). zip2_splat_left {Z = ℕ} (λ a b. cond (ltb a b) 255 0) x n v long in
    run_is is_plain bytes at n _ _ c.requires.1 c.requires.0 c.type_inv.bytes c.first_set.ensures _
    (zip2_of_maps bit_or _ _ v (zip2_of_maps bit_or _ _ v (zip2_of_maps bit_or _ _ v
    (zip2_of_maps bit_or _ _ v
    (zip2_of_maps bit_or _ _ v (zip2_of_maps bit_or _ _ v (equal _) (equal _)) (equal _)) (equal _))
    (zip2_of_maps bit_or _ _ v (below _) (equal _)))
    (zip2_of_maps bit_and _ _ v (zip2_of_maps bit_and _ _ v (above _) (below _)) (other _)))
    (zip2_of_maps bit_and _ _ v (above _) (other _)))
    refl
