-- What is read at the beginning of an entry is an entry of the table.
use Rattle.std.proofs.Common.{◌≡◌, ◌⊎◌, ◌∷◌, ◌++◌, [], ℕ, ◌+◌, suc, arith, List, Bool, true, false, not}
use Rattle.std.proofs.Common.{◌&&◌, ◌||◌, refl, sym, ap, ◌∙◌, subst, inl, inr, map, cond, take}
use Rattle.std.proofs.Common.{drop, Option, Some, None, IfSome, IsTrue, nat_eq}
use Rattle.std.specs.Borrow.{Bor}
use Rattle.std.specs.List.{slice_split, onto_first, prefix_len, before_first, list_any}
use Rattle.std.specs.Str.{bytes_eq}
use Rattle.std.proofs.lemmas.Bool.{or_left, or_right, and_from}
use Rattle.std.proofs.lemmas.List.{append_assoc, map-append, take-append-drop}
use Rattle.std.proofs.lemmas.List.Folds.{list_any-append}
use Rattle.std.proofs.lemmas.Slice.Eq.{bytes_eq-Decides}
use Rattle.md_references.specs.Names.{name_and_text, entries_of, has}
use Rattle.md_references.specs.Places.{IsBeforeEntry}

longer : (size : ℕ) → suc size ≡ 1 + size
longer size = omega arith

module _ {X : Type 0} (p : X → Bool) where
  -- the first part is what is before the first separator
  pub first_part : (xs : List X) → (rest : List (List X))
      × (slice_split p xs ≡ before_first p xs ∷ rest)
  first_part [] = ([], refl)
  first_part (x ∷ xs) = by (p x) (first_part xs)
    where
      by : (separates : Bool) → (rest : List (List X)) × (slice_split p xs ≡ before_first p xs ∷ rest) →
          (rest : List (List X))
          × (cond separates ([] ∷ slice_split p xs) (onto_first x (slice_split p xs))
          ≡ take (cond (not separates) (1 + prefix_len (λ x. not (p x)) xs) 0) (x ∷ xs) ∷ rest)
      by true first = (slice_split p xs, refl)
      by false (rest, first) = (
        rest,
        ap (onto_first x) first ∙ ap (λ size. take size (x ∷ xs) ∷ rest) (longer _),
      )

  -- a separator separates the parts
  pub parts_around : (before : List X) (x : X) (after : List X) → p x ≡ true →
      slice_split p (before ++ x ∷ after) ≡ slice_split p before ++ slice_split p after
  parts_around [] x after is =
      ap (λ b. cond b ([] ∷ slice_split p after) (onto_first x (slice_split p after))) is
  parts_around (y ∷ before) x after is = by (p y) (first_part before) (parts_around before x after is)
    where
      by : (separates : Bool) →
          (rest : List (List X)) × (slice_split p before ≡ before_first p before ∷ rest) →
          slice_split p (before ++ x ∷ after) ≡ slice_split p before ++ slice_split p after →
          cond separates ([] ∷ slice_split p (before ++ x ∷ after))
          (onto_first y (slice_split p (before ++ x ∷ after)))
          ≡ cond separates ([] ∷ slice_split p before) (onto_first y (slice_split p before))
          ++ slice_split p after
      by true first around = ap (λ parts. [] ∷ parts) around
      by false (rest, first) around =
          ap (onto_first y) (around ∙ ap (λ parts. parts ++ slice_split p after) first)
          ∙ ap (λ parts. onto_first y parts ++ slice_split p after) (sym first)

-- a list has its own first pair
has-first : (pair : List ℕ × List ℕ) (rest : List (List ℕ × List ℕ)) →
    has (pair ∷ rest) pair ≡ true
has-first pair rest = or_left _ _ (and_from _ _ (same pair.0) (same pair.1))
  where
    same : (text : List ℕ) → bytes_eq text text ≡ true
    same text = (bytes_eq-Decides text text).1 refl

-- what is read behind such a text is an entry of the table
pub listed : (table before rest : List ℕ) → table ≡ before ++ rest → IsBeforeEntry before →
    has (entries_of table) (name_and_text (before_first (λ byte. nat_eq byte 0) rest)) ≡ true
listed table before rest is (inl none) =
    let first = first_part (λ byte. nat_eq byte 0) rest in
    let entry = before_first (λ byte. nat_eq byte 0) rest in
    ap (λ text. has (entries_of text) (name_and_text entry))
    (is ∙ ap (λ front. front ++ rest) none)
    ∙ ap (λ parts. has (map name_and_text parts) (name_and_text entry)) first.1
    ∙ has-first (name_and_text entry) (map name_and_text first.0)
listed table before rest is (inr (front, ends)) =
    let separates : ℕ → Bool = λ byte. nat_eq byte 0 in
    let entry = name_and_text (before_first separates rest) in
    let parts = slice_split separates rest in
    let first = first_part separates rest in
    let around = map name_and_text (slice_split separates front) in
    ap (λ text. has (entries_of text) entry)
    (is ∙ ap (λ front. front ++ rest) ends ∙ append_assoc front (0 ∷ []) rest)
    ∙ ap (λ parts. has (map name_and_text parts) entry) (parts_around separates front 0 rest refl)
    ∙ ap (λ list. has list entry)
    (map-append name_and_text (slice_split separates front) parts)
    ∙ list_any-append (λ each. bytes_eq each.0 entry.0 && bytes_eq each.1 entry.1) around
    (map name_and_text parts)
    ∙ or_right (has around entry) (has (map name_and_text parts) entry)
    (ap (λ parts. has (map name_and_text parts) entry) first.1
    ∙ has-first entry (map name_and_text first.0))

-- the parts of an entry of the table
pub parts_listed : (pairs : List (List ℕ × List ℕ)) (entry : List ℕ)
    (parts : Option (Bor (List ℕ) × Bor (List ℕ))) → has pairs (name_and_text entry) ≡ true →
    IfSome parts (λ parts. (parts.0.now, parts.1.now) ≡ name_and_text entry) →
    IfSome parts (λ parts. IsTrue (has pairs (parts.0.now, parts.1.now)))
parts_listed pairs entry None is same = tt
parts_listed pairs entry (Some parts) is same = ap (has pairs) same ∙ is

-- a text is its two parts
pub joined : (table given before rest : List ℕ) (middle : ℕ) → given ≡ table →
    before ≡ take middle given → rest ≡ drop middle given → table ≡ before ++ rest
joined table given before rest middle is front back =
    sym is ∙ sym (take-append-drop middle given)
    ∙ ap (λ front. front ++ drop middle given) (sym front) ∙ ap (λ back. before ++ back) (sym back)
