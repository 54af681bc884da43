-- Lane by lane, a byte is marked just where it doesn't stay.
use Rattle.std.proofs.Common.{ℕ, true, false, bit_or, eqb, cond, min, drop, refl, sym, ap, ◌∙◌}
use Rattle.std.proofs.lemmas.Simd.{length-chunk, zip2_splat, zip2_of_maps}
use Rattle.std.specs.List.{prefix_len}
use lib.Lanes.{chunk}
use Rattle.md_text.specs.Kept.{is_kept}
use Rattle.md_text.proofs.RunLemmas.{run_is}
use Rattle.md_text.proofs.escape.KeptLaneTest.run_in.Goals as goal

pub returns-then-not-encode_html : goal.returns-then-not-encode_html
returns-then-not-encode_html g c =
    let n = g.row.N in
    let bytes = c.args.bytes.now in
    let at = c.args.at in
    let block = chunk at n bytes in
    let long = length-chunk at n bytes c.requires.1 in
    run_is (is_kept false) bytes at n _ _ c.requires.1 c.requires.0 c.type_inv.bytes
    c.first_set.ensures _ (zip2_splat _ block n 0 long) refl
    ∙ ap (λ html. min n (prefix_len (is_kept html) (drop at bytes))) (sym c.if-not-encode_html.true)

pub returns : goal.returns
returns g c =
    let n = g.row.N in
    let bytes = c.args.bytes.now in
    let at = c.args.at in
    let block = chunk at n bytes in
    let long = length-chunk at n bytes c.requires.1 in
    let equal = λ (x : ℕ). zip2_splat {Z = ℕ} (λ a b. cond (eqb a b) 255 0) block n x long in
    run_is (is_kept true) bytes at n _ _ c.requires.1 c.requires.0 c.type_inv.bytes
    c.first_set-2.ensures _
    (zip2_of_maps bit_or _ _ block (zip2_of_maps bit_or _ _ block (zip2_of_maps bit_or _ _ block
    (zip2_of_maps bit_or _ _ block (equal _) (equal _)) (equal _)) (equal _)) (equal _)) refl
    ∙ ap (λ html. min n (prefix_len (is_kept html) (drop at bytes)))
    (sym c.if-not-encode_html.false)
