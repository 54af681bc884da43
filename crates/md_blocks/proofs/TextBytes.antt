-- A byte that begins nothing but text begins no mark.
use Rattle.std.proofs.Common.{ℕ, Bool, List, [], ◌∷◌, ◌≡◌, ◌≤◌, ◌∙◌, ◌==◌, ◌&&◌, ◌+◌, ◌-◌, ◌++◌}
use Rattle.std.proofs.Common.{true, false, refl, sym, ap}
use Rattle.std.proofs.Common.{arith, inl, inr, length, drop, take, get_or, nat_lt, not, suc, cond}
use Rattle.std.specs.Prelude.{◌||◌, reverse, min, if◌then◌else◌}
use Rattle.std.specs.List.{list_all, onto_first, prefix_len, suffix_len}
use Rattle.std.proofs.lemmas.Bool.{agree_below_at, cases_Bool, false≢true, ltb-true, ne_eqb}
use Rattle.std.proofs.lemmas.List.{reverse-append, length-reverse}
use Rattle.md_lines.specs.Lines.{is_blank}
use Rattle.md_blocks.specs.Leaves.{cells, delimiters, is_delimiter, is_delimiter_row}
use Rattle.md_blocks.specs.Leaves.{without_blanks, without_first}
use Rattle.md_blocks.specs.Marks.{ends_marker, is_apart, is_digit, opens_item}
use Rattle.md_blocks.specs.Progress.{is_text}

-- no such byte is another one
pub other : (k byte : ℕ) → is_text byte ≡ true → is_text k ≡ false → (byte == k) ≡ false
other k byte is not_k =
    ne_eqb byte k (λ e. absurd (false≢true (sym not_k ∙ ap is_text (sym e) ∙ is)))

above : (byte : ℕ) → is_text byte ≡ true → nat_lt byte 58 ≡ false
above byte is = elim (cases_Bool (nat_lt byte 58)) [
  | inl e ↦ absurd (false≢true (sym (agree_below_at is_text (λ _. false) 58 byte refl
      (ltb-true byte 58 e)) ∙ is))
  | inr e ↦ e
]

pub and_false : (x : Bool) → (x && false) ≡ false
and_false true = refl
and_false false = refl

no_digit : (byte : ℕ) → is_text byte ≡ true → is_digit byte ≡ false
no_digit byte is =
    ap (λ so. not (nat_lt byte 48) && so) (above byte is) ∙ and_false (not (nat_lt byte 48))

pub no_blank : (byte : ℕ) → is_text byte ≡ true → is_blank byte ≡ false
no_blank byte is = ap (λ so. so || byte == 9) (other 32 byte is refl) ∙ other 9 byte is refl

pub and_mid : (x y z : Bool) → y ≡ false → (x && (y && z)) ≡ false
and_mid x y z is = ap (λ so. x && (so && z)) is ∙ and_false x

abbrev opens_at : ℕ → List ℕ → Bool
opens_at digits text =
    nat_lt digits (length text)
    && (ends_marker digits (get_or text digits 0) && is_apart (drop (suc digits) text))

no_marker : (byte : ℕ) → is_text byte ≡ true → ends_marker 0 byte ≡ false
no_marker byte is =
    ap (λ so. so || (byte == 43 || byte == 45)) (other 42 byte is refl)
    ∙ ap (λ so. so || byte == 45) (other 43 byte is refl)
    ∙ other 45 byte is refl

-- no item begins at a byte that is no digit and no mark of an item
pub no_item_at : (text : List ℕ) → is_digit (get_or text 0 0) ≡ false →
    ends_marker 0 (get_or text 0 0) ≡ false → opens_item text ≡ false
no_item_at [] no_digit no_mark = refl
no_item_at (byte ∷ rest) no_digit no_mark =
    ap (λ n. opens_at n (byte ∷ rest))
    (ap (λ so. min 9 (cond so (1 + prefix_len is_digit rest) 0)) no_digit)
    ∙ and_mid (nat_lt 0 (length (byte ∷ rest))) (ends_marker 0 byte) (is_apart rest) no_mark

pub no_item : (text : List ℕ) → is_text (get_or text 0 0) ≡ true → opens_item text ≡ false
no_item text is = no_item_at text (no_digit (get_or text 0 0) is) (no_marker (get_or text 0 0) is)

prefix_before : (p : ℕ → Bool) (xs : List ℕ) (x : ℕ) → p x ≡ false →
    prefix_len p (xs ++ x ∷ []) ≤ length xs
prefix_before p [] x is =
    let none : prefix_len p (x ∷ []) ≡ 0 = ap {B = ℕ} (λ so. cond so 1 0) is in omega (arith, none)
prefix_before p (y ∷ xs) x is = later (p y) _ _ (prefix_before p xs x is) where
  later : (so : Bool) (n m : ℕ) → n ≤ m → cond so (1 + n) 0 ≤ suc m
  later true n m is = omega (arith, is)
  later false n m is = omega arith

-- how many blanks end a text that begins with another byte
few : (byte : ℕ) (rest : List ℕ) → is_blank byte ≡ false →
    suffix_len is_blank (byte ∷ rest) ≤ length rest
few byte rest is =
    omega (
      arith,
      ap (prefix_len is_blank) (reverse-append (byte ∷ []) rest),
      prefix_before is_blank (reverse rest) byte is,
      length-reverse rest,
    )

kept : (byte : ℕ) (rest : List ℕ) → is_blank byte ≡ false →
    without_blanks (byte ∷ rest)
    ≡ byte ∷ take (length rest - suffix_len is_blank (byte ∷ rest)) rest
kept byte rest is =
    let count = suffix_len is_blank (byte ∷ rest) in
    let left : length (byte ∷ rest) - count ≡ suc (length rest - count) =
    omega (arith, few byte rest is) in
    ap (λ n. take n (byte ∷ rest)) left

no_cell : (byte : ℕ) (rest : List ℕ) → is_text byte ≡ true → is_delimiter (byte ∷ rest) ≡ false
no_cell byte rest is =
    rw (no_blank byte is, other 58 byte is refl, other 45 byte is refl) refl

all_cells : (byte : ℕ) (parts : List (List ℕ)) → is_text byte ≡ true →
    list_all is_delimiter (onto_first byte parts) ≡ false
all_cells byte [] is = ap (λ so. so && true) (no_cell byte [] is)
all_cells byte (part ∷ parts) is =
    ap (λ so. so && list_all is_delimiter parts) (no_cell byte part is)

delimited : (byte : ℕ) (rest : List ℕ) → is_text byte ≡ true →
    list_all is_delimiter (delimiters (byte ∷ rest)) ≡ false
delimited byte rest is =
    let inner = take (length rest - suffix_len is_blank (byte ∷ rest)) rest in
    ap (λ t. list_all is_delimiter (cells (without_first 124 t))) (kept byte rest (no_blank byte is))
    ∙ ap (λ so. list_all is_delimiter (cells (if so then inner else byte ∷ inner))) (other 124 byte is refl)
    ∙ ap (λ so. list_all is_delimiter (if so then [] ∷ cells inner else onto_first byte (cells inner)))
    (other 124 byte is refl)
    ∙ all_cells byte (cells inner) is

pub no_row : (text : List ℕ) → is_text (get_or text 0 0) ≡ true → is_delimiter_row text ≡ false
no_row [] is = absurd (false≢true is)
no_row (byte ∷ rest) is =
    and_mid (nat_lt 0 (length (delimiters (byte ∷ rest)))) _ _ (delimited byte rest is)
