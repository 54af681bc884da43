-- Entries found by their places.
use Rattle.std.proofs.Common.{◌≡◌, ◌<◌, ℕ, ◌+◌, zero, suc, Bool, true, false, subst, List, [], ◌∷◌}
use Rattle.std.proofs.Common.{◌++◌, length, Option, Some, None, refl, ap, arith, bytes_eq, String}
use Rattle.std.proofs.Common.{Global, string_bytes}
use Rattle.std.specs.Prelude.{if◌then◌else◌, option_map, slice_get, slice_index_or, slice_set}
use Rattle.std.specs.Prelude.{IfSome, IfNone}
use Rattle.std.specs.Option.{option_map_or}
use Rattle.md_steps.specs.Steps.{noted}
use Rattle.md_footnotes.specs.Entries.{counts_in, footnotes_in, again, place_in}
use Rattle.md_footnotes.specs.Words.{text_of}
use Rattle.md_footnotes.proofs.Tally.{counted}
use Rattle.md_footnotes.proofs.Numbers.{number_among, count_among}
use Rattle.md_meaning.proofs.Identifiers.{same}

-- ---- by the entries before a place
module _ {V : Type 0} (q : List ℕ) where
  pub place_by : (claim : List (String Global × V) → Option ℕ → Type 0) → claim [] None →
      ((e : String Global × V) (es : List (String Global × V)) →
      bytes_eq (string_bytes e.0) q ≡ true → claim (e ∷ es) (Some 0)) →
      ((e : String Global × V) (es : List (String Global × V)) →
      bytes_eq (string_bytes e.0) q ≡ false → claim es None → claim (e ∷ es) None) →
      ((e : String Global × V) (es : List (String Global × V)) (i : ℕ) →
      bytes_eq (string_bytes e.0) q ≡ false → claim es (Some i) → claim (e ∷ es) (Some (suc i))) →
      (entries : List (String Global × V)) → claim entries (place_in entries q)
  place_by claim none here missed later [] = none
  place_by claim none here missed later (e ∷ es) =
      by (bytes_eq (string_bytes e.0) q) refl (place_in es q)
      (place_by claim none here missed later es)
    where
      by : (b : Bool) → bytes_eq (string_bytes e.0) q ≡ b → (o : Option ℕ) → claim es o →
          claim (e ∷ es) (if b then Some 0 else option_map (λ place. suc place) o)
      by true is o held = here e es is
      by false is None held = missed e es is held
      by false is (Some i) held = later e es i is held

  -- where it is there, and where it isn't
  pub placed_by : (claim : List (String Global × V) → ℕ → Type 0) →
      ((e : String Global × V) (es : List (String Global × V)) →
      bytes_eq (string_bytes e.0) q ≡ true → claim (e ∷ es) 0) →
      ((e : String Global × V) (es : List (String Global × V)) (i : ℕ) →
      bytes_eq (string_bytes e.0) q ≡ false → claim es i → claim (e ∷ es) (suc i)) →
      (entries : List (String Global × V)) (i : ℕ) → place_in entries q ≡ Some i → claim entries i
  placed_by claim here later entries i h =
      subst (λ o. IfSome o (claim entries)) h (place_by (λ es o. IfSome o (claim es)) tt here
      (λ e es differ held. tt) later entries)

  pub missing_by : (claim : List (String Global × V) → Type 0) → claim [] →
      ((e : String Global × V) (es : List (String Global × V)) →
      bytes_eq (string_bytes e.0) q ≡ false → claim es → claim (e ∷ es)) →
      (entries : List (String Global × V)) → place_in entries q ≡ None → claim entries
  missing_by claim none missed entries h =
      subst (λ o. IfNone o (claim entries)) h (place_by (λ es o. IfNone o (claim es)) none
      (λ e es is. tt) missed (λ e es i differ held. tt) entries)

-- a place is one of an entry
pub place-below : {V : Type 0} (entries : List (String Global × V)) (q : List ℕ) (i : ℕ) →
    place_in entries q ≡ Some i → i < length entries
place-below entries q = placed_by q (λ es i. i < length es) (λ e es is. omega arith)
    (λ e es i differ below. omega (arith, below)) entries

-- the count, the number and the text of the entry at an index
pub count-at : (entries : List (String Global × ℕ)) (q : List ℕ) →
    option_map_or (λ place. option_map_or (λ e. e.1) (slice_get entries place) 0)
    (place_in entries q) 0 ≡ count_among (counts_in entries) q
count-at entries q = place_by q (λ es o. option_map_or
    (λ place. option_map_or (λ e. e.1) (slice_get es place) 0) o 0 ≡ count_among (counts_in es) q)
    refl (λ e es is. rw is refl) (λ e es differ held. rw differ held)
    (λ e es i differ held. rw differ held) entries

pub number-at : (entries : List (String Global × ℕ)) (q : List ℕ) →
    option_map_or (λ place. place + 1) (place_in entries q) (length entries + 1)
    ≡ number_among (counts_in entries) q
number-at entries q = place_by q (λ es o. option_map_or (λ place. place + 1) o (length es + 1)
    ≡ number_among (counts_in es) q) refl (λ e es is. rw is refl)
    (λ e es differ held. rw differ (omega (arith, held)))
    (λ e es i differ held. rw differ (omega (arith, held))) entries

pub text-at : (entries : List (String Global × String Global)) (q : List ℕ) →
    option_map_or (λ place. option_map_or (λ e. string_bytes e.1) (slice_get entries place) [])
    (place_in entries q) [] ≡ text_of (footnotes_in entries) q
text-at entries q = place_by q (λ es o. option_map_or
    (λ place. option_map_or (λ e. string_bytes e.1) (slice_get es place) []) o []
    ≡ text_of (footnotes_in es) q) refl (λ e es is. rw is refl) (λ e es differ held. rw differ held)
    (λ e es i differ held. rw differ held) entries

-- a call more of what is called, and of what isn't
pub counted-again : (entries : List (String Global × ℕ)) (q : List ℕ) (i : ℕ) →
    place_in entries q ≡ Some i →
    counts_in (again entries i) ≡ counted (counts_in entries) q
counted-again entries q =
    placed_by q (λ es i. counts_in (again es i) ≡ counted (counts_in es) q)
    (λ e es is. rw is refl) (λ e es i differ held. rw differ
    (ap (λ cs. record { identifier = string_bytes e.0; count = e.1 } ∷ cs) held)) entries

pub counted-new : (entries : List (String Global × ℕ)) (key : String Global) →
    place_in entries (string_bytes key) ≡ None → counts_in (entries ++ (key, 1) ∷ [])
    ≡ counted (counts_in entries) (string_bytes key)
counted-new entries key =
    missing_by (string_bytes key)
    (λ es. counts_in (es ++ (key, 1) ∷ []) ≡ counted (counts_in es) (string_bytes key)) refl
    (λ e es differ held. rw differ
    (ap (λ cs. record { identifier = string_bytes e.0; count = e.1 } ∷ cs) held)) entries

-- one more footnote with an existing identifier, and with a new one
pub noted-present : (entries : List (String Global × String Global)) (q text : List ℕ) (i : ℕ) →
    place_in entries q ≡ Some i → footnotes_in entries
    ≡ noted (footnotes_in entries) (record { identifier = q; text = text })
noted-present entries q text =
    placed_by q (λ es i. footnotes_in es
    ≡ noted (footnotes_in es) (record { identifier = q; text = text })) (λ e es is. rw is refl)
    (λ e es i differ held. rw differ
    (ap (λ fs. record { identifier = string_bytes e.0; text = string_bytes e.1 } ∷ fs) held))
    entries

pub noted-new : (entries : List (String Global × String Global)) (key text : String Global) →
    place_in entries (string_bytes key) ≡ None →
    footnotes_in (entries ++ (key, text) ∷ []) ≡ noted (footnotes_in entries) (record {
      identifier = string_bytes key;
      text = string_bytes text;
    })
noted-new entries key text =
    missing_by (string_bytes key) (λ es. footnotes_in (es ++ (key, text) ∷ [])
    ≡ noted (footnotes_in es) (record {
      identifier = string_bytes key;
      text = string_bytes text;
    })) refl (λ e es differ held. rw differ
    (ap (λ fs. record { identifier = string_bytes e.0; text = string_bytes e.1 } ∷ fs) held))
    entries

-- what is written at a place, where its count is one more
pub again-set : (entries : List (String Global × ℕ)) (place n : ℕ) (d e : String Global × ℕ) →
    place < length entries → d ≡ slice_index_or entries place d →
    n ≡ (slice_index_or entries place e).1 + 1 →
    slice_set entries place (d.0, n) ≡ again entries place
again-set [] place n d e below same one = absurd (omega (arith, below))
again-set (f ∷ entries) zero n d e below same one = grind arith
again-set (f ∷ entries) (suc place) n d e below same one =
    ap (λ es. f ∷ es) (again-set entries place n d e (omega (arith, below)) same one)
