-- Numbers after an id: they are all written differently, so at most as many of them are taken as
-- there are ids.
use Rattle.std.proofs.Common.{◌≡◌, ℕ, ◌+◌, ◌<◌, ◌≤◌, ◌^◌, zero, suc, Bool, true, false, List}
use Rattle.std.proofs.Common.{[], ◌∷◌, ◌++◌, map, length, refl, sym, ap, ◌∙◌, subst, append-nil}
use Rattle.std.proofs.Common.{inl, inr, not, ◌-◌, arith, eqb, ◌||◌, String, Global, string_bytes}
use Rattle.std.specs.Ordering.{is_eq, nat_cmp}
use Rattle.std.specs.Cmp.Lexicographic.{slice_cmp}
use Rattle.std.specs.Str.{bytes_eq}
use Rattle.std.specs.Fmt.{decimal}
use Rattle.std.specs.List.{list_all, list_any, AllByRecursion, IsDistinct}
use Rattle.std.specs.BTreeSet.{BTreeSet, contains_text}
use Rattle.std.specs.Cmp.{IsEquivalence}
use Rattle.std.specs.Cmp.Lexicographic.{bytes_decides}
use Rattle.std.proofs.lemmas.Bool.{and_parts, or_cases, eqb-true, eqb-false}
use Rattle.std.proofs.lemmas.Fmt.{decimal_injective}
use Rattle.std.proofs.lemmas.List.{append_cancel_left, length-map}
use Rattle.std.proofs.lemmas.Map.Made.{length-le_from_is_member}
use Rattle.std.proofs.lemmas.Map.Text.{is_eq-slice_cmp}
use Rattle.md_base.proofs.Lies.{lie}
use Rattle.md_text.specs.Encode.{encoded}
use Rattle.md_text.proofs.EncodeLemmas.{encoded-append, encoded_byte-plain}
use Rattle.md_safe.specs.Input.{with_line_feeds}
use Rattle.md_safe.proofs.LineFeeds.{line_feeds-append, line_feeds-name}
use Rattle.md_page.specs.GivenIds.{written_id}
use Rattle.md_page.proofs.Numbers.{is_itself, itself_parts, itself-returns, decimal-itself}
use Rattle.md_slugs.specs.Chosen.{numbered}

encoded-itself : (x : List ℕ) → list_all is_itself x ≡ true → encoded true x ≡ x
encoded-itself [] h = refl
encoded-itself (b ∷ x) h =
    let p = and_parts (is_itself b) (list_all is_itself x) h in
    let q = (itself_parts b p.0).plain in
    ap (λ y. y ++ encoded true x)
    (encoded_byte-plain true b q.no_nul q.no_and q.no_quote q.no_less q.no_more)
    ∙ ap (λ y. b ∷ y) (encoded-itself x p.1)

written-numbered : (base : List ℕ) (k : ℕ) →
    written_id (numbered base k) ≡ written_id base ++ (45 ∷ decimal k)
written-numbered base k =
    let d = 45 ∷ decimal k in
    let h : list_all is_itself d ≡ true = decimal-itself k in
    ap with_line_feeds
    (encoded-append true base d ∙ ap (λ y. encoded true base ++ y) (encoded-itself d h))
    ∙ line_feeds-append (encoded true base) d refl
    ∙ ap (λ y. with_line_feeds (encoded true base) ++ y) (ap with_line_feeds (sym (append-nil d))
    ∙ line_feeds-name d [] (itself-returns d h) ∙ append-nil d)

number-apart : (base : List ℕ) (m k : ℕ) → m < 2 ^ 64 → k < 2 ^ 64 →
    written_id (numbered base m) ≡ written_id (numbered base k) → m ≡ k
number-apart base m k l n e =
    decimal_injective m k l n (tail_of 45 45 (decimal m) (decimal k)
    (append_cancel_left (written_id base) (45 ∷ decimal m) (45 ∷ decimal k)
    (sym (written-numbered base m) ∙ e ∙ written-numbered base k)))
  where
    tail_of : (b c : ℕ) (x y : List ℕ) → b ∷ x ≡ c ∷ y → x ≡ y
    tail_of b c x y e = cc

-- ---- a range of numbers from one
abbrev tried : List ℕ → ℕ → ℕ → List (List ℕ)
tried base first zero = []
tried base first (suc m) = written_id (numbered base first) ∷ tried base (suc first) m

length-tried : (base : List ℕ) (first m : ℕ) → length (tried base first m) ≡ m
length-tried base first zero = refl
length-tried base first (suc m) = ap (λ n. suc n) (length-tried base (suc first) m)

not-tried : (base : List ℕ) (k first m : ℕ) → k < first → first + m < 2 ^ 64 →
    AllByRecursion (λ y. bytes_eq (written_id (numbered base k)) y ≡ false) (tried base first m)
not-tried base k first zero below few = tt
not-tried base k first (suc m) below few = (
  differs (bytes_eq (written_id (numbered base k)) (written_id (numbered base first))) refl,
  not-tried base k (suc first) m (omega arith) (omega (arith, few)),
)
  where
    differs : (b : Bool) →
        bytes_eq (written_id (numbered base k)) (written_id (numbered base first)) ≡ b → b ≡ false
    differs true e =
        absurd (other (number-apart base k first (omega (arith, few)) (omega (arith, few))
        ((bytes_decides (written_id (numbered base k)) (written_id (numbered base first))).0 e)))
      where
        other : k ≡ first → ⊥
        other same = omega (arith, same, below)
    differs false e = refl

distinct-tried : (base : List ℕ) (first m : ℕ) → first + m < 2 ^ 64 →
    IsDistinct bytes_eq (tried base first m)
unfolding IsDistinct
distinct-tried base first zero few = tt
distinct-tried base first (suc m) few = (
  not-tried base first (suc first) m (omega arith) (omega (arith, few)),
  distinct-tried base (suc first) m (omega (arith, few)),
)

among-tried : (base : List ℕ) (first m : ℕ) (ys : List (List ℕ)) → ((k : ℕ) → first ≤ k →
    k < first + m → list_any (bytes_eq (written_id (numbered base k))) ys ≡ true) →
    (q : List ℕ) → list_any (bytes_eq q) (tried base first m) ≡ true →
    list_any (bytes_eq q) ys ≡ true
among-tried base first zero ys f q h = lie h
among-tried base first (suc m) ys f q h =
    elim (or_cases (bytes_eq q (written_id (numbered base first)))
    (list_any (bytes_eq q) (tried base (suc first) m)) h) [
      | inl e ↦
          subst (λ w. list_any (bytes_eq w) ys ≡ true)
          (sym ((bytes_decides q (written_id (numbered base first))).0 e))
          (f first (omega arith) (omega arith))
      | inr later ↦
          among-tried base (suc first) m ys (λ k low high. f k (omega (arith, low))
          (omega (arith, high))) q later
    ]

-- ---- what a set has
laws : IsEquivalence bytes_eq
laws = record {
  refl = λ x. (bytes_decides x x).1 refl;
  symm = λ x y. both x y (bytes_eq x y) refl (bytes_eq y x) refl;
  congr = λ x y z e. ap (λ w. bytes_eq w z) ((bytes_decides x y).0 e);
}
  where
    both : (x y : List ℕ) (b : Bool) → bytes_eq x y ≡ b → (c : Bool) → bytes_eq y x ≡ c → b ≡ c
    both x y true e true g = refl
    both x y true e false g =
        lie (sym g ∙ (bytes_decides y x).1 (sym ((bytes_decides x y).0 e)))
    both x y false e true g = lie (sym e ∙ (bytes_decides x y).1 (sym ((bytes_decides y x).0 g)))
    both x y false e false g = refl

pub keys-text : (taken : BTreeSet (String Global)) (w : List ℕ) →
    contains_text taken w ≡ list_any (bytes_eq w) (map string_bytes taken.keys)
keys-text taken w = all taken.keys
  where
    all : (keys : List (String Global)) →
        list_any (λ k. is_eq (slice_cmp nat_cmp w (string_bytes k))) keys
        ≡ list_any (bytes_eq w) (map string_bytes keys)
    all [] = refl
    all (k ∷ keys) =
        ap (λ b. b || list_any (λ k. is_eq (slice_cmp nat_cmp w (string_bytes k))) keys)
        (is_eq-slice_cmp w (string_bytes k))
        ∙ ap (λ b. bytes_eq w (string_bytes k) || b) (all keys)

-- the numbers from one on that are taken
abbrev pub AreTaken : BTreeSet (String Global) → List ℕ → ℕ → ℕ → Type 0
AreTaken taken base first last = (k : ℕ) → first ≤ k → k < last →
    contains_text taken (written_id (numbered base k)) ≡ true

pub few-taken : (taken : BTreeSet (String Global)) (base : List ℕ) (first m : ℕ) →
    first + m < 2 ^ 64 → AreTaken taken base first (first + m) → m ≤ length taken.keys
few-taken taken base first m few all =
    let ys = map string_bytes taken.keys in
    let short : length (tried base first m) ≤ length ys =
    length-le_from_is_member laws (tried base first m) ys (distinct-tried base first m few)
    (among-tried base first m ys
    (λ k low high. sym (keys-text taken (written_id (numbered base k))) ∙ all k low high)) in
    omega (arith, short, length-tried base first m, length-map taken.keys string_bytes)

-- one more
pub more-taken : (taken : BTreeSet (String Global)) (base : List ℕ) (first number next : ℕ) →
    next ≡ number + 1 → AreTaken taken base first number →
    contains_text taken (written_id (numbered base number)) ≡ true →
    AreTaken taken base first next
more-taken taken base first number next is all one k low high = by (eqb k number) refl
  where
    by : (b : Bool) → eqb k number ≡ b →
        contains_text taken (written_id (numbered base k)) ≡ true
    by true e =
        subst (λ n. contains_text taken (written_id (numbered base n)) ≡ true)
        (sym (eqb-true k number e)) one
    by false e = all k low (below (eqb-false k number e))
      where
        below : (k ≡ number → ⊥) → k < number
        below other = omega (arith, high, is)

-- not more numbers than ids
pub turn : (taken : BTreeSet (String Global)) (base : List ℕ) (first number : ℕ) →
    first ≤ number → number + 1 < 2 ^ 64 → AreTaken taken base first (number + 1) →
    number + 1 ≤ first + length taken.keys
turn taken base first number low few all =
    let m = number + 1 - first in
    let same : first + m ≡ number + 1 = omega (arith, low) in
    let short : m ≤ length taken.keys =
    few-taken taken base first m (omega (arith, same, few))
    (subst (AreTaken taken base first) (sym same) all) in
    omega (arith, short, low)

pub is-taken : (b free : Bool) → free ≡ not b → free ≡ false → b ≡ true
is-taken true free e f = refl
is-taken false free e f = lie (sym f ∙ e)
