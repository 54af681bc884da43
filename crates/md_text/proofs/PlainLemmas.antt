-- The parts of a URL: runs of plain bytes, percent triples, and bytes that become triples.
use Rattle.std.proofs.Common.{◌≡◌, ◌≢◌, ℕ, ◌+◌, ◌<◌, ◌≤◌, true, false, List, [], ◌∷◌, ◌++◌, ◌||◌}
use Rattle.std.proofs.Common.{length, get_or, take, drop, min, Fits, w8, refl, ap₂}
use Rattle.std.proofs.Common.{arith, append-nil, append_assoc, suc, zero, suc-le-suc, inl, inr}
use Rattle.std.proofs.Math.Seq.{take-add}
use Rattle.std.proofs.lemmas.List.{length-drop, drop-drop}
use Rattle.std.proofs.lemmas.List.Elements.{All-nil, All-cons, All-head, All-append}
use Rattle.std.proofs.lemmas.List.Elements.{All-from_recursion}
use Rattle.std.proofs.lemmas.Bool.{cases_Bool, cases_lt, cases_eq, agree_below_at, and_parts}
use Rattle.std.proofs.lemmas.Bool.{or_parts, or_left, not-true, eqb-false}
use Rattle.std.proofs.lemmas.Bool.{both_ways, and_from, ne_eqb}
use Rattle.std.proofs.lemmas.Bool.Decides.{nat_tests}
use Rattle.std.specs.List.{prefix_len}
use Rattle.md_text.specs.Encode.{encoded, encoded_byte}
use Rattle.md_text.specs.Kept.{is_plain, begins_triple, begins_kept, AreKept, changed_byte}
use Rattle.md_text.specs.Url.{stays, is_triple_byte, hex_digit}
use Rattle.md_text.specs.Url.{percent, normalized_byte, normalized_url, sanitized}
use Rattle.md_text.proofs.EncodeLemmas.{encoded-append}
use Rattle.md_text.proofs.KeptLemmas.{next}
use Rattle.md_text.specs.Laws.{AreAscii}
use Rattle.md_text.proofs.UrlLemmas.{encoded_byte-stays, stays-high}
use Rattle.md_text.proofs.UrlLaws.{high_digit, low_digit, IsAsciiByte}

-- the first byte of a URL and the others
sanitized-first : (b : ℕ) (rest : List ℕ) →
    sanitized (b ∷ rest) ≡ encoded true (normalized_byte b rest) ++ sanitized rest
sanitized-first b rest = encoded-append true (normalized_byte b rest) (normalized_url rest)

-- a byte that stays
sanitized-stays : (b : ℕ) (rest : List ℕ) → stays b rest ≡ true → b ≢ 38 →
    sanitized (b ∷ rest) ≡ b ∷ sanitized rest
sanitized-stays b rest s ne = grind (arith, sanitized-first, append-nil, encoded_byte-stays)

sanitized-plain : (b : ℕ) (rest : List ℕ) → is_plain b ≡ true →
    sanitized (b ∷ rest) ≡ b ∷ sanitized rest
sanitized-plain b rest p = grind (arith, and_parts, sanitized-stays, or_left, eqb-false, not-true)

-- a byte that becomes a percent triple
digit-kept : (d : ℕ) → d < 16 → encoded_byte true (hex_digit d) ≡ hex_digit d ∷ []
digit-kept d l = grind arith

pub sanitized-percent : (b : ℕ) (rest : List ℕ) → b < 256 → stays b rest ≡ false →
    percent b ++ sanitized rest ≡ sanitized (b ∷ rest)
sanitized-percent b rest l gone = grind (arith, digit-kept, high_digit, low_digit, sanitized-first)

-- four bytes that become triples, in sequence
sanitized-four : (a b c d : ℕ) (rest : List ℕ) → 128 ≤ a → 128 ≤ b → 128 ≤ c →
    128 ≤ d → a < 256 → b < 256 →
    c < 256 → d < 256 →
    (percent a ++ (percent b ++ (percent c ++ percent d))) ++ sanitized rest
    ≡ sanitized (a ∷ b ∷ c ∷ d ∷ rest)
sanitized-four a b c d rest ha hb hc hd la lb lc ld =
    rw (
      sanitized-percent d rest ld (stays-high d rest hd),
      sanitized-percent c (d ∷ rest) lc (stays-high c (d ∷ rest) hc),
      sanitized-percent b (c ∷ d ∷ rest) lb (stays-high b (c ∷ d ∷ rest) hb),
    )
    (sanitized-percent a (b ∷ c ∷ d ∷ rest) la (stays-high a (b ∷ c ∷ d ∷ rest) ha))

pub sanitized-four-of : (a : ℕ) (rest : List ℕ) → 3 ≤ length rest →
    ((k : ℕ) → Fits w8 (get_or rest k 0)) → a < 256 →
    128 ≤ a → 128 ≤ get_or rest 0 0 → 128 ≤ get_or rest 1 0 → 128 ≤ get_or rest 2 0 →
    (percent a
    ++ (percent (get_or rest 0 0) ++ (percent (get_or rest 1 0) ++ percent (get_or rest 2 0))))
    ++ sanitized (drop 3 rest) ≡ sanitized (a ∷ rest)
sanitized-four-of a (b ∷ c ∷ d ∷ rest) l fits la ha hb hc hd =
    sanitized-four a b c d rest ha hb hc hd la (fits 0).fits (fits 1).fits (fits 2).fits
sanitized-four-of a _ l fits la ha hb hc hd = absurd (omega arith)

-- a plain byte is ASCII
plain-ascii : (b : ℕ) → is_plain b ≡ true → b < 128
plain-ascii b p = grind arith

-- plain bytes at the front
pub kept-plain : (n : ℕ) (bs : List ℕ) → n ≤ prefix_len is_plain bs → AreKept bs n
kept-plain zero bs le = (omega arith, All-nil IsAsciiByte, refl)
kept-plain (suc n) [] le = absurd (omega (arith, le))
kept-plain (suc n) (b ∷ bs) le =
    let plain : is_plain b ≡ true = grind (arith, le) in
    let kept = kept-plain n bs (grind (arith, le)) in (
      suc-le-suc kept.0,
      All-cons IsAsciiByte b (take n bs) (plain-ascii b plain) kept.1,
      rw (sanitized-plain b bs plain, ← kept.2) refl,
    )

-- a percent triple at the front
triple-plain : (b : ℕ) → is_triple_byte b ≡ true → is_plain b ≡ true
triple-plain b e = grind (arith, cases_lt, agree_below_at, nat_tests, both_ways)

pub kept-triple : (bs : List ℕ) → begins_triple bs ≡ true → AreKept bs 3
kept-triple [] e = cc
kept-triple (b ∷ []) e = grind (arith, e)
kept-triple (b ∷ c ∷ []) e = grind (arith, e)
kept-triple (b ∷ c ∷ d ∷ rest) e =
    let first = triple-plain c (grind (arith, e)) in
    let second = triple-plain d (grind (arith, e)) in
    let third : b < 128 = grind (arith, e) in (
      omega arith,
      All-from_recursion IsAsciiByte (b ∷ c ∷ d ∷ [])
          (third, (plain-ascii c first, (plain-ascii d second, tt))),
      rw (sanitized-stays b (c ∷ d ∷ rest) (grind (arith, e)) (grind (arith, e)))
          (rw (sanitized-plain c (d ∷ rest) first) (rw (sanitized-plain d rest second) refl)),
    )

-- some at the front, and some in the rest
pub kept-join : (bs : List ℕ) (n m : ℕ) → AreKept bs n → AreKept (drop n bs) m → AreKept bs (n + m)
kept-join bs n m front later =
    let both = take-add n m bs in (
      omega (arith, front.0, later.0, length-drop n bs),
      rw both (All-append IsAsciiByte (take n bs) (take m (drop n bs)) front.1 later.1),
      rw (both, append_assoc, ← drop-drop m n bs, later.2, front.2) refl,
    )

-- where the plain bytes end, and no triple begins
pub kept-ends : (bs : List ℕ) → begins_triple (drop (prefix_len is_plain bs) bs) ≡ false →
    begins_kept (drop (prefix_len is_plain bs) bs) ≡ false
kept-ends [] = λ other. refl
kept-ends (b ∷ bs) = elim (cases_Bool (is_plain b)) [
  | inl e ↦ rw e (rw (← next (prefix_len is_plain bs)) (kept-ends bs))
  | inr e ↦ rw e (λ other. ap₂ (λ x y. x || y) e other)
]

-- a plain byte, and those after it
pub first-plain : (bs : List ℕ) (n : ℕ) → 1 ≤ length bs → is_plain (get_or bs 0 0) ≡ true →
    n ≡ min 3 (prefix_len is_plain (drop 1 bs)) → 1 + n ≡ min 4 (prefix_len is_plain bs)
first-plain bs n long plain is = grind arith

-- a byte that isn't written as it is
pub sanitized-changed : (b : ℕ) (rest : List ℕ) → b < 256 → begins_kept (b ∷ rest) ≡ false →
    changed_byte b ++ sanitized rest ≡ sanitized (b ∷ rest)
sanitized-changed b rest l changes =
    grind (arith, cases_eq, or_parts, ne_eqb, cases_Bool, both_ways, and_from, sanitized-percent)

-- the same for the bytes at the beginning
pub sanitized-changed_first : (bs : List ℕ) → 1 ≤ length bs → get_or bs 0 0 < 256 →
    begins_kept bs ≡ false → changed_byte (get_or bs 0 0) ++ sanitized (drop 1 bs) ≡ sanitized bs
sanitized-changed_first bs long low changes = grind (arith, sanitized-changed)

-- triples are ASCII
pub triple-ascii : (high low : ℕ) → high < 128 → low < 128 → AreAscii (37 ∷ high ∷ low ∷ [])
triple-ascii high low h l = grind arith

-- the byte at which a text ends that another one is added to
pub first-added : (before more : List ℕ) → AreAscii more → length before < length (before ++ more) →
    get_or (before ++ more) (length before) 0 < 128
first-added [] [] ascii l = absurd (omega arith)
first-added [] (b ∷ more) ascii l = All-head IsAsciiByte b more ascii
first-added (b ∷ before) more ascii l = first-added before more ascii (omega arith)
