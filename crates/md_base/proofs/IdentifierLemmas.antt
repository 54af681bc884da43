-- White space collapsed in one pass: before the first word, inside a word, and after one. The loop
-- of `collapse_white_space` follows these steps.
use Rattle.std.proofs.Common.{◌≡◌, ℕ, zero, suc, ◌<◌, ◌≤◌, Bool, true, false, not, eqb, cond, List}
use Rattle.std.proofs.Common.{[], ◌∷◌, ◌++◌, length, get_or, refl, ap, ◌∙◌, arith, encode_utf8}
use Rattle.std.specs.Prelude.{filter}
use Rattle.std.specs.List.{slice_split, onto_first, join_with_byte}
use Rattle.std.proofs.lemmas.List.{append_assoc, append-nil}
use Rattle.std.proofs.lemmas.Bool.{true≢false}
use Rattle.std.proofs.lemmas.Bool.Decides.{nat_tests}
use Rattle.std.proofs.lemmas.Str.{encode_ascii, inside_one, length-encode, len_utf8_bounds}
use Rattle.md_base.specs.Identifier.{is_white, is_nonempty, collapsed}

-- further words, each after a space
abbrev spaced : List (List ℕ) → List ℕ
spaced [] = []
spaced (word ∷ words) = 32 ∷ join_with_byte 32 (word ∷ words)

-- the first part continues the word so far
abbrev word_on : List (List ℕ) → List ℕ
word_on [] = []
word_on (first ∷ parts) = first ++ spaced (filter is_nonempty parts)

-- what is still to be written inside a word
abbrev pub in_word : List ℕ → List ℕ
in_word text = word_on (slice_split is_white text)

-- and after one
abbrev pub after_word : List ℕ → List ℕ
after_word text = spaced (filter is_nonempty (slice_split is_white text))

join-cons : (word : List ℕ) (words : List (List ℕ)) →
    join_with_byte 32 (word ∷ words) ≡ word ++ spaced words
join-cons word words = grind (arith, append-nil)

-- ---- at a byte of white space

white_split : (b : ℕ) (text : List ℕ) → is_white b ≡ true →
    slice_split is_white (b ∷ text) ≡ [] ∷ slice_split is_white text
white_split b text white = grind arith

pub in_word-white : (b : ℕ) (text : List ℕ) → is_white b ≡ true →
    in_word (b ∷ text) ≡ after_word text
in_word-white b text white = ap word_on (white_split b text white)

-- ---- at another byte

black_split : (b : ℕ) (text : List ℕ) → is_white b ≡ false →
    slice_split is_white (b ∷ text) ≡ onto_first b (slice_split is_white text)
black_split b text black = grind arith

join_onto : (b : ℕ) (parts : List (List ℕ)) →
    join_with_byte 32 (filter is_nonempty (onto_first b parts)) ≡ b ∷ word_on parts
join_onto b parts = grind (arith, join-cons)

spaced_onto : (b : ℕ) (parts : List (List ℕ)) →
    spaced (filter is_nonempty (onto_first b parts)) ≡ 32 ∷ b ∷ word_on parts
spaced_onto b parts = grind (arith, join-cons)

word_onto : (b : ℕ) (parts : List (List ℕ)) → word_on (onto_first b parts) ≡ b ∷ word_on parts
word_onto b parts = grind arith

pub collapsed-black : (b : ℕ) (text : List ℕ) → is_white b ≡ false →
    collapsed (b ∷ text) ≡ b ∷ in_word text
collapsed-black b text black = grind (arith, black_split, join_onto)

pub in_word-black : (b : ℕ) (text : List ℕ) → is_white b ≡ false →
    in_word (b ∷ text) ≡ b ∷ in_word text
in_word-black b text black = grind (arith, black_split, word_onto)

pub after_word-black : (b : ℕ) (text : List ℕ) → is_white b ≡ false →
    after_word (b ∷ text) ≡ 32 ∷ b ∷ in_word text
after_word-black b text black = grind (arith, black_split, spaced_onto)

-- ---- at a character, with what is written so far and whether a space is owed

-- what is still to be written
abbrev pub still : Bool → List ℕ → List ℕ → List ℕ
still is_gap [] rest = collapsed rest
still true (b ∷ written) rest = after_word rest
still false (b ∷ written) rest = in_word rest

wide_is_black : (b : ℕ) → 128 ≤ b → is_white b ≡ false
wide_is_black b wide = grind (arith, nat_tests)

white_is_ascii : (c : ℕ) → is_white c ≡ true → c < 128
white_is_ascii c white = grind (arith, true≢false, wide_is_black)

white_step_ascii : (is_gap empty : Bool) (written : List ℕ) (c : ℕ) (rest : List ℕ) →
    is_white c ≡ true →
    empty ≡ eqb (length written) 0 →
    still (not empty) written rest ≡ still is_gap written (c ∷ rest)
white_step_ascii is_gap empty written c rest white e = grind arith

pub white_step : (is_gap empty : Bool) (written : List ℕ) (c : ℕ) (rest : List ℕ) →
    is_white c ≡ true →
    empty ≡ eqb (length written) 0 →
    still (not empty) written rest ≡ still is_gap written (encode_utf8 c ++ rest)
white_step is_gap empty written c rest white e =
    grind (arith, white_step_ascii, encode_ascii, white_is_ascii)

-- no byte of the word is white space
abbrev IsBlack : List ℕ → Type 0
IsBlack word = (k : ℕ) → k < length word → is_white (get_or word k 0) ≡ false

encode_is_black : (c : ℕ) → is_white c ≡ false → IsBlack (encode_utf8 c)
encode_is_black c black k inside =
    grind (arith, inside_one c [] (encode_utf8 c) k, append-nil, wide_is_black, black, inside)

word_runs : (word rest : List ℕ) → IsBlack word → in_word (word ++ rest) ≡ word ++ in_word rest
word_runs [] rest black = refl
word_runs (b ∷ word) rest black =
    in_word-black b (word ++ rest) (black zero (omega arith))
    ∙ ap (λ t. b ∷ t) (word_runs word rest (λ k inside. black (suc k) (omega (arith, inside))))

word_step : (is_gap : Bool) (written word rest : List ℕ) → 0 < length word → IsBlack word →
    (is_gap ≡ true → 0 < length written) → (written ++ (cond is_gap (32 ∷ []) [] ++ word))
    ++ still false (written ++ (cond is_gap (32 ∷ []) [] ++ word)) rest
    ≡ written ++ still is_gap written (word ++ rest)
word_step is_gap written [] rest some black owed = absurd (omega (arith, some))
word_step is_gap written (b ∷ word) rest some black owed =
    let first = black zero some in
    let later = word_runs word rest (λ k inside. black (suc k) (omega (arith, inside))) in
    grind (
      arith,
      collapsed-black,
      after_word-black,
      in_word-black,
      append_assoc,
      first,
      later,
      owed,
    )

pub black_step : (is_gap : Bool) (written : List ℕ) (c : ℕ) (rest : List ℕ) → is_white c ≡ false →
    (is_gap ≡ true → 0 < length written) → (written ++ (cond is_gap (32 ∷ []) [] ++ encode_utf8 c))
    ++ still false (written ++ (cond is_gap (32 ∷ []) [] ++ encode_utf8 c)) rest ≡ written
    ++ still is_gap written (encode_utf8 c ++ rest)
black_step is_gap written c rest black owed =
    grind (arith, word_step, length-encode, len_utf8_bounds, encode_is_black)

pub still_end : (is_gap : Bool) (written : List ℕ) → written ++ still is_gap written [] ≡ written
still_end is_gap written = grind (arith, append-nil)

pub still_start : (written rest value : List ℕ) → written ≡ [] → rest ≡ value →
    written ++ still false written rest ≡ collapsed value
still_start written rest value e same = ap (λ w. w ++ still false w rest) e ∙ ap collapsed same

pub owed_after : (empty : Bool) (written : List ℕ) →
    empty ≡ eqb (length written) 0 → not empty ≡ true →
    0 < length written
owed_after empty written e owes = grind arith
