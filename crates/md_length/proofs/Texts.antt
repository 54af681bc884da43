-- How long the texts are that are printed of what is read: escaped, as URLs, and as identifiers.
use Rattle.std.proofs.Common.{ℕ, zero, suc, ◌+◌, ◌-◌, ◌*◌, ◌≤◌, Bool, true, List, [], ◌∷◌, length}
use Rattle.std.proofs.Common.{arith, lit≤, filter}
use Rattle.std.specs.Prelude.{if◌then◌else◌, encode_utf8, encode_utf8_all}
use Rattle.std.specs.List.{flat_map, slice_split, join_with_byte, onto_first}
use Rattle.std.specs.Str.{chars, chars_after, continuation_len, lead_bits}
use Rattle.std.proofs.lemmas.Bool.{cases_lt}
use Rattle.std.proofs.lemmas.Bool.Decides.{nat_tests}
use Rattle.std.proofs.lemmas.Grind.{flat_map-append}
use Rattle.std.proofs.lemmas.Str.{length-encode}
use Rattle.ucd_case.specs.CaseFolding.{full_fold}
use Rattle.caseless.specs.Caseless.{default_case_fold}
use Rattle.caseless.proofs.CaselessLemmas.{full_folding_short, full_fold-none, full_fold-some}
use Rattle.md_base.specs.Identifier.{normalized}
use Rattle.md_text.specs.Encode.{encoded_byte, encoded}
use Rattle.md_text.specs.Url.{hex_digit, percent, stays, sanitized}
use Rattle.md_text.specs.Filter.{tag_filtered}
use Rattle.md_length.proofs.Pieces.{sizes, bytes-append}

-- ---- the result for each element
pub flat_map-short : {X : Type 0} (f : X → List ℕ) (k : ℕ) → ((x : X) → length (f x) ≤ k) →
    (xs : List X) → length (flat_map f xs) ≤ k * length xs
flat_map-short f k each [] = omega arith
flat_map-short f k each (x ∷ xs) =
    omega (arith, bytes-append, each x, flat_map-short f k each xs)

-- ---- escaping
pub encoded-short : (html : Bool) (text : List ℕ) → length (encoded html text) ≤ 6 * length text
encoded-short html text = flat_map-short (encoded_byte html) 6 (λ b. omega sizes) text

-- ---- URLs
-- a hexadecimal digit is none of the bytes that are escaped
digit-one : (d : ℕ) → length (encoded_byte true (hex_digit d)) ≤ 1
digit-one d = grind (arith, nat_tests)

escaped-one : (b : ℕ) (rest : List ℕ) →
    length (encoded true (if stays b rest then b ∷ [] else percent b)) ≤ 6
escaped-one b rest = grind (arith, encoded-short, bytes-append, digit-one)

pub sanitized-short : (text : List ℕ) → length (sanitized text) ≤ 6 * length text
sanitized-short [] = lit≤ tt
sanitized-short (b ∷ rest) =
    grind (arith, bytes-append, flat_map-append, escaped-one, sanitized-short rest)

-- ---- the tag filter
pub filtered-short : (text : List ℕ) → length (tag_filtered text) ≤ 4 * length text
filtered-short [] = lit≤ tt
filtered-short (b ∷ rest) = omega (sizes, filtered-short rest)

-- ---- identifiers
after-short : (n c : ℕ) (text : List ℕ) → length (chars_after n c text) ≤ suc (length text)
after-short zero c [] = lit≤ tt
after-short zero c (b ∷ text) = omega (arith, after-short (continuation_len b) (lead_bits b) text)
after-short (suc n) c [] = lit≤ tt
after-short (suc n) c (b ∷ text) = omega (arith, after-short n (c * 64 + (b - 128)) text)

pub chars-short : (text : List ℕ) → length (chars text) ≤ length text
unfolding chars
chars-short [] = lit≤ tt
chars-short (b ∷ text) = after-short (continuation_len b) (lead_bits b) text

pub character-short : (c : ℕ) → length (encode_utf8 c) ≤ 4
character-short c = grind (arith, length-encode c, nat_tests)

pub spelled-short : (cs : List ℕ) → length (encode_utf8_all cs) ≤ 4 * length cs
spelled-short [] = lit≤ tt
spelled-short (c ∷ cs) = omega (arith, bytes-append, character-short c, spelled-short cs)

folded_one-short : (c : ℕ) → length (full_fold c) ≤ 3
folded_one-short c = grind (arith, full_fold-none, full_fold-some, full_folding_short, cases_lt)

-- the pieces of a text and what is between them
total : List (List ℕ) → ℕ
total [] = 0
total (text ∷ texts) = suc (length text) + total texts

joined-short : (texts : List (List ℕ)) → length (join_with_byte 32 texts) ≤ total texts - 1
unfolding total
joined-short [] = lit≤ tt
joined-short (text ∷ []) = omega arith
joined-short (text ∷ other ∷ texts) = omega (arith, bytes-append, joined-short (other ∷ texts))

filter-total : (test : List ℕ → Bool) (texts : List (List ℕ)) → total (filter test texts) ≤ total
    texts
unfolding total
filter-total test [] = lit≤ tt
filter-total test (text ∷ texts) = grind (arith, filter-total test texts)

onto-total : (b : ℕ) (texts : List (List ℕ)) → 1 ≤ total texts →
    (total (onto_first b texts) ≤ suc (total texts)) × (1 ≤ total (onto_first b texts))
unfolding total
onto-total b [] some = absurd (omega arith)
onto-total b (text ∷ texts) some = (omega arith, omega arith)

split-total : (test : ℕ → Bool) (text : List ℕ) →
    (total (slice_split test text) ≤ suc (length text)) × (1 ≤ total (slice_split test text))
unfolding total
split-total test [] = (lit≤ tt, lit≤ tt)
split-total test (b ∷ text) =
    grind (arith, onto-total b (slice_split test text), split-total test text)

-- an identifier has at most twelve bytes for each of its label
pub normalized-short : (text : List ℕ) → length (normalized text) ≤ 12 * length text
unfolding default_case_fold
normalized-short text =
    omega (
      arith,
      spelled-short,
      flat_map-short full_fold 3 folded_one-short,
      chars-short,
      joined-short,
      filter-total,
      split-total,
    )
