-- Lane by lane, a byte is marked just where it is `<`.
use Rattle.std.proofs.Common.{ℕ, eqb, cond, refl}
use Rattle.std.proofs.lemmas.Simd.{length-chunk, zip2_splat}
use lib.Lanes.{chunk}
use Rattle.md_text.specs.Kept.{opens_no_tag}
use Rattle.md_text.proofs.RunLemmas.{run_is}
use Rattle.md_text.proofs.filter.OpensNoTagLaneTest.run_in.Goals as goal

pub returns : goal.returns
returns g c =
    let n = g.row.N in
    let bytes = c.args.bytes.now in
    let at = c.args.at in
    let block = chunk at n bytes in
    let long = length-chunk at n bytes c.requires.1 in
    run_is opens_no_tag bytes at n _ _ c.requires.1 c.requires.0 c.type_inv.bytes
    c.first_set.ensures _
    (zip2_splat {Z = ℕ} (λ a b. cond (eqb a b) 255 0) block n _ long) refl
