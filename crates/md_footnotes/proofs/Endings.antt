-- Texts without the line endings at their ends.
use Rattle.std.proofs.Common.{◌≡◌, ◌<◌, ◌≤◌, ℕ, ◌+◌, ◌-◌, suc, Bool, true, false, ◌&&◌, ◌||◌, ◌==◌}
use Rattle.std.proofs.Common.{List, [], ◌∷◌, ◌++◌, length, take, drop, get_or, refl, ap, sym, ◌∙◌}
use Rattle.std.proofs.Common.{arith, codes, append_assoc}
use Rattle.std.specs.Prelude.{if◌then◌else◌}
use Rattle.std.proofs.lemmas.Bool.{ne_eqb}
use Rattle.std.proofs.lemmas.List.{length-take-le, length-drop, length-append, take-append-drop}
use Rattle.std.proofs.lemmas.List.{take-append-le}
use Rattle.std.proofs.Math.Seq.{take-length}
use Rattle.std.proofs.lemmas.Slice.Eq.{bytes_eq-Decides}
use Rattle.md_meaning.specs.Meaning.Footnotes.{unended_length}
use Rattle.md_footnotes.specs.Words.{unended, ends_in_paragraph}

abbrev pub is_break : ℕ → Bool
is_break byte = byte == 13 || byte == 10

unended-below : (xs : List ℕ) → unended_length xs ≤ length xs
unended-below [] = omega arith
unended-below (x ∷ xs) = let later = unended-below xs in grind (arith, later)
  where
    nothing : (n : ℕ) → 0 ≤ suc n
    nothing n = omega arith

    more : (m n : ℕ) → m ≤ n → suc m ≤ suc n
    more m n h = omega (arith, h)

-- the length of the rest
pub length-unended : (xs : List ℕ) → length (unended xs) ≡ unended_length xs
length-unended xs = length-take-le (unended_length xs) xs (unended-below xs)

-- a line ending more at the end makes no difference
break-length : (xs : List ℕ) (b : ℕ) → is_break b ≡ true →
    unended_length (xs ++ b ∷ []) ≡ unended_length xs
break-length [] b h = ap (λ t. if t && (0 == 0) then 0 else 1) h
break-length (x ∷ xs) b h = let later = break-length xs b h in grind (arith, later)

pub unended-break : (xs : List ℕ) (b : ℕ) → is_break b ≡ true → unended (xs ++ b ∷ []) ≡ unended xs
unended-break xs b h = grind (arith, break-length, take-append-le, unended-below)

-- nothing goes after another byte
other-length : (xs : List ℕ) (b : ℕ) → is_break b ≡ false →
    unended_length (xs ++ b ∷ []) ≡ suc (length xs)
other-length [] b h = ap (λ t. if t && (0 == 0) then 0 else 1) h
other-length (x ∷ xs) b h = let later = other-length xs b h in grind (arith, ne_eqb, later)
  where
    not_both : (t : Bool) →
        (if t && false then 0 else suc (suc (length xs))) ≡ suc (suc (length xs))
    not_both true = refl
    not_both false = refl

pub unended-other : (xs : List ℕ) (b : ℕ) → is_break b ≡ false →
    unended (xs ++ b ∷ []) ≡ xs ++ b ∷ []
unended-other xs b h =
    ap (λ n. take n (xs ++ b ∷ [])) (other-length xs b h ∙ sym (one_more xs))
    ∙ take-length (xs ++ b ∷ [])
  where
    one_more : (ys : List ℕ) → length (ys ++ b ∷ []) ≡ suc (length ys)
    one_more [] = refl
    one_more (y ∷ ys) = ap (λ n. suc n) (one_more ys)

-- the byte after some bytes
get-at : (xs : List ℕ) (y : ℕ) (ys : List ℕ) → get_or (xs ++ y ∷ ys) (length xs) 0 ≡ y
get-at [] y ys = refl
get-at (x ∷ xs) y ys = get-at xs y ys

-- where a text ends in `</p>`, that begins with `<`
pub paragraph-cut : (text : List ℕ) → ends_in_paragraph text ≡ true →
    (unended_length text - 4 < length text) × (get_or text (unended_length text - 4) 0 ≡ 60)
paragraph-cut text h =
    let w : List ℕ = unended text in
    let n : ℕ = unended_length text - 4 in
    let last : drop n w ≡ codes "</p>" = (bytes_eq-Decides (drop n w) (codes "</p>")).0 h in
    let tail : List ℕ = drop (unended_length text) text in
    let four : length w - n ≡ 4 = sym (length-drop n w) ∙ ap (λ ys. length ys) last in
    let front : length (take n w) ≡ n = length-take-le n w (omega (arith, four)) in
    let whole : text ≡ take n w ++ (60 ∷ (codes "/p>" ++ tail)) =
    sym (take-append-drop (unended_length text) text)
    ∙ ap (λ ys. ys ++ tail) (sym (take-append-drop n w) ∙ ap (λ ys. take n w ++ ys) last)
    ∙ append_assoc (take n w) (codes "</p>") tail
    in (
      longer (length text) n (length (codes "/p>" ++ tail)) (ap (λ t. length t) whole
          ∙ length-append (take n w) (60 ∷ (codes "/p>" ++ tail))
          ∙ ap (λ m. m + suc (length (codes "/p>" ++ tail))) front),
      ap (λ t. get_or t n 0) whole
          ∙ ap (λ m. get_or (take n w ++ (60 ∷ (codes "/p>" ++ tail))) m 0) (sym front)
          ∙ get-at (take n w) 60 (codes "/p>" ++ tail),
    )
  where
    longer : (a b c : ℕ) → a ≡ b + suc c → b < a
    longer a b c e = omega (arith, e)
