-- Lane by lane, a byte is marked just where it doesn't go on.
use Rattle.std.proofs.Common.{ℕ, bit_or, eqb, ltb, cond, refl, lit≤}
use Rattle.std.proofs.lemmas.Simd.{length-chunk, zip2_splat, zip2_of_maps}
use lib.Lanes.{chunk}
use Rattle.md_lines.specs.Lines.{goes_on_in_destination}
use Rattle.md_text.proofs.RunLemmas.{run_is}
use Rattle.md_lines.proofs.link.InDestinationSearch.run_in.Goals as goal

pub returns : goal.returns
returns c =
    let bytes = c.args.bytes.now in
    let at = c.args.at in
    let block = chunk at 16 bytes in
    let long = length-chunk at 16 bytes c.requires in
    let equal = λ (x : ℕ). zip2_splat {Z = ℕ} (λ a b. cond (eqb a b) 255 0) block 16 x long in
    let below = λ (x : ℕ). zip2_splat {Z = ℕ} (λ a b. cond (ltb a b) 255 0) block 16 x long in
    run_is goes_on_in_destination bytes at 16 _ _ c.requires (lit≤ tt) c.type_inv.bytes
    c.first_set.ensures _
    (zip2_of_maps bit_or _ _ block (zip2_of_maps bit_or _ _ block (zip2_of_maps bit_or _ _ block
    (zip2_of_maps bit_or _ _ block (below _) (equal _)) (equal _)) (equal _)) (equal _))
    refl
