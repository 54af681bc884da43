-- Lane by lane, a byte is marked just where it isn't plain.
use Rattle.std.proofs.Common.{arith, ℕ, bit_or, eqb, cond, refl}
use Rattle.std.proofs.lemmas.Simd.{length-chunk, zip2_splat, zip2_of_maps}
use lib.Lanes.{chunk}
use Rattle.md_text.proofs.RunLemmas.{run_is}
use Rattle.md_reader.specs.Runs.{is_plain}
use Rattle.md_reader.proofs.run.plain_in.Goals as goal

pub returns : goal.returns
returns c =
    let bytes = c.args.text.now in
    let at = c.args.at in
    let block = chunk at 16 bytes in
    let long = length-chunk at 16 bytes c.requires in
    let equal = λ (x : ℕ). zip2_splat {Z = ℕ} (λ a b. cond (eqb a b) 255 0) block 16 x long in
    run_is is_plain bytes at 16 _ _ c.requires (omega arith) c.type_inv.text
    c.first_marked.ensures _
    (zip2_of_maps bit_or _ _ block (zip2_of_maps bit_or _ _ block (zip2_of_maps bit_or _ _ block
    (zip2_of_maps bit_or _ _ block (equal _) (equal _)) (equal _)) (equal _)) (equal _)) refl
