-- Lane by lane, a byte is marked just where it is one of these.
use Rattle.std.proofs.Common.{◌≡◌, ℕ, zero, suc, Bool, true, false, not, ◌&&◌, ◌||◌, eqb, cond}
use Rattle.std.proofs.Common.{bit_or, get_or, refl, lit≤, subst, ap₂}
use Rattle.std.specs.Bool.{beq}
use Rattle.std.proofs.lemmas.Bool.{agree_below}
use Rattle.std.proofs.lemmas.Simd.{length-chunk, zip2_splat, zip2_of_maps}
use lib.Lanes.{chunk, top}
use Rattle.md_lines.specs.Lines.{is_none_of}
use Rattle.md_text.proofs.RunLemmas.{run_is}
use Rattle.md_lines.proofs.find.AnyOfSearch.run_in.Goals as goal

itself : (b : Bool) → beq b b ≡ true
itself true = refl
itself false = refl

agree : (p q : ℕ → Bool) (n : ℕ) → ((x : ℕ) → p x ≡ q x) → agree_below p q n ≡ true
agree p q zero same = refl
agree p q (suc n) same =
    ap₂ (λ a b. a && b) (subst (λ b. beq (p n) b ≡ true) (same n) (itself (p n)))
    (agree p q n same)

abbrev mark : Bool → ℕ
mark b = cond b 255 0

marked : (p q r : Bool) →
    not (top 7 (bit_or (bit_or (mark p) (mark q)) (mark r))) ≡ not (p || (q || r))
marked true true true = refl
marked true true false = refl
marked true false true = refl
marked true false false = refl
marked false true true = refl
marked false true false = refl
marked false false true = refl
marked false false false = refl

pub returns : goal.returns
returns c =
    let bytes = c.args.bytes.now in
    let at = c.args.at in
    let wanted = c.args.self.0 in
    let block = chunk at 16 bytes in
    let long = length-chunk at 16 bytes c.requires in
    let equal = λ (x : ℕ). zip2_splat {Z = ℕ} (λ a b. cond (eqb a b) 255 0) block 16 x long in
    run_is (is_none_of wanted) bytes at 16 _ _ c.requires (lit≤ tt) c.type_inv.bytes
    c.first_set.ensures _
    (zip2_of_maps bit_or _ _ block (zip2_of_maps bit_or _ _ block (equal _) (equal _)) (equal _))
    (agree _ (is_none_of wanted) 256
    (λ x. marked (eqb x (get_or wanted 0 0)) (eqb x (get_or wanted 1 0))
    (eqb x (get_or wanted 2 0))))
