-- The tag filter, from one `<` to the next.
use Rattle.std.proofs.Common.{◌≡◌, ◌≢◌, ℕ, ◌+◌, ◌<◌, ◌≤◌, false, List}
use Rattle.std.proofs.Common.{[], ◌∷◌, ◌++◌, length, get_or, take, drop, refl, sym, ap}
use Rattle.std.proofs.Common.{arith, zero, suc, add-one, drop-cons, append_assoc}
use Rattle.std.proofs.lemmas.Bool.{eqb-true, not-false}
use Rattle.std.proofs.lemmas.List.{take_more, get_or-drop, length-drop}
use Rattle.std.proofs.lemmas.List.Sums.{prefix_len_stops}
use Rattle.std.specs.List.{prefix_len}
use Rattle.md_text.specs.Filter.{tag_filtered, filtered_byte, begins_disarmed_name, past_slash}
use Rattle.md_text.specs.Kept.{opens_no_tag}

-- a byte that isn't `<` stays
pub filtered_byte-other : (b : ℕ) (rest : List ℕ) → b ≢ 60 → filtered_byte b rest ≡ b ∷ []
filtered_byte-other b rest ne = grind arith

pub tag_filtered-other : (b : ℕ) (rest : List ℕ) → b ≢ 60 →
    tag_filtered (b ∷ rest) ≡ b ∷ tag_filtered rest
tag_filtered-other b rest ne = ap (λ x. x ++ tag_filtered rest) (filtered_byte-other b rest ne)

-- the front of a text that holds no `<`
filtered-front : (m : ℕ) (bs : List ℕ) → m ≤ prefix_len opens_no_tag bs →
    take m bs ++ tag_filtered (drop m bs) ≡ tag_filtered bs
filtered-front zero bs le = refl
filtered-front (suc m) [] le = refl
filtered-front (suc m) (b ∷ bs) le =
    let later = filtered-front m bs in grind (arith, tag_filtered-other, later, le)

-- the same after some bytes
pub filtered-run : (bs : List ℕ) (i m j : ℕ) → j ≡ i + m → m ≤ prefix_len opens_no_tag (drop i bs) →
    take j bs ++ tag_filtered (drop j bs) ≡ take i bs ++ tag_filtered (drop i bs)
filtered-run bs zero m j e le = grind (arith, filtered-front, e, le)
filtered-run bs (suc i) m zero e le = absurd (omega arith)
filtered-run [] (suc i) m (suc j) e le = refl
filtered-run (b ∷ bs) (suc i) m (suc j) e le = rw (filtered-run bs i m j (omega arith) le) refl

-- a text from one of its bytes on
from : (bs : List ℕ) (i : ℕ) → i < length bs → drop i bs ≡ get_or bs i 0 ∷ drop (i + 1) bs
from bs i h = sym (rw (add-one, ← drop-cons bs i 0) refl)

pub filtered-angle : (bs : List ℕ) (i : ℕ) → i < length bs → get_or bs i 0 ≡ 60 →
    begins_disarmed_name (past_slash (drop (i + 1) bs)) ≡ false →
    take (i + 1) bs ++ tag_filtered (drop (i + 1) bs) ≡ take i bs ++ tag_filtered (drop i bs)
filtered-angle bs i h is other = grind (arith, take_more, append_assoc, from)

-- the byte after a run without `<`
pub angle-at : (bs : List ℕ) (i m j : ℕ) → j ≡ i + m → m ≡ prefix_len opens_no_tag (drop i bs) →
    j < length bs →
    get_or bs j 0 ≡ 60
angle-at bs i m j e is inside =
    grind (arith, prefix_len_stops, length-drop, get_or-drop, eqb-true, not-false)
