-- Entries sorted by name: a search by halves, and what a stable sort keeps.
use Rattle.std.proofs.Common.{◌≡◌, ℕ, zero, suc, ◌+◌, ◌-◌, ◌<◌, ◌≤◌, Bool, true, false, not, ◌&&◌, List, [], ◌∷◌, length, get_or}
use Rattle.std.proofs.Common.{Option, Some, None, Bor, refl, sym, ap, ◌∙◌, inl, inr, arith, subst, ⊎_elim}
use Rattle.std.specs.Str.{bytes_eq}
use Rattle.std.specs.List.{filter}
use Rattle.std.specs.List.Sorted.{IsPartitionedBy, IsPartitionPoint, IsStableByKey, ties}
use Rattle.std.proofs.Common.{Ordering, Less, Equal, Greater}
use Rattle.std.specs.Ordering.{nat_cmp, is_lt, is_gt, is_eq, ordering_reverse}
use Rattle.std.specs.Cmp.{IsTotalOrder}
use Rattle.std.specs.Cmp.Lexicographic.{slice_cmp}
use Rattle.std.proofs.lemmas.Cmp.{nat_list_cmp_total, upto, tied_itself, alike_right}
use Rattle.std.proofs.lemmas.Map.Text.{is_eq-slice_cmp}
use mathlib.Core.Bool.{false≢true}
use Rattle.std.proofs.lemmas.Bool.{cases_Bool, cases_lt}
use Rattle.md_base.specs.Reference.{name_table, named}
use Rattle.md_base.specs.References.{Entries, AreSorted}

abbrev Entry : Type 0
Entry = Bor (List ℕ) × Bor (List ℕ)

abbrev by : List ℕ → List ℕ → Ordering
by = slice_cmp nat_cmp

abbrev key : Entry → List ℕ
key entry = entry.0.now

-- ---- the order of names

greater≢less : Greater ≡ Less → ⊥
greater≢less e = false≢true (ap is_lt e)

greater≢equal : Greater ≡ Equal → ⊥
greater≢equal e = false≢true (ap is_eq e)

greater-back : (x y : List ℕ) → is_gt (by x y) ≡ is_lt (by y x)
greater-back x y = ap is_gt (IsTotalOrder.antisymm nat_list_cmp_total x y) ∙ turned (by y x)
  where
    turned : (o : Ordering) → is_gt (ordering_reverse o) ≡ is_lt o
    turned Less = refl
    turned Equal = refl
    turned Greater = refl

-- what is at most a name is before each name that it is before
less-before : (x y name : List ℕ) → is_gt (by x y) ≡ false → is_lt (by y name) ≡ true →
    is_lt (by x name) ≡ true
less-before x y name le less = go (by x y) refl (by y name) refl
  where
    go : (o : Ordering) → by x y ≡ o → (p : Ordering) → by y name ≡ p → is_lt (by x name) ≡ true
    go Less e Less f = ap is_lt (IsTotalOrder.trans nat_list_cmp_total x y name e f)
    go Equal e p f = ap is_lt (IsTotalOrder.congr nat_list_cmp_total x y name e) ∙ less
    go Greater e p f = absurd (false≢true (sym le ∙ ap is_gt e))
    go Less e Equal f = absurd (false≢true (sym (ap is_lt f) ∙ less))
    go Less e Greater f = absurd (false≢true (sym (ap is_lt f) ∙ less))

-- what isn't after a name that isn't before a third is not that one, unless the first is
same-before : (x y name : List ℕ) → is_gt (by x y) ≡ false → is_lt (by x name) ≡ false →
    bytes_eq x name ≡ false → bytes_eq y name ≡ false
same-before x y name le not_less other = go (by y name) refl (by x y) refl (by x name) refl
  where
    go : (o : Ordering) → by y name ≡ o → (p : Ordering) → by x y ≡ p → (q : Ordering) →
        by x name ≡ q → bytes_eq y name ≡ false
    go Less e p f q g = sym (is_eq-slice_cmp y name) ∙ ap is_eq e
    go Greater e p f q g = sym (is_eq-slice_cmp y name) ∙ ap is_eq e
    go Equal e Greater f q g = absurd (false≢true (sym le ∙ ap is_gt f))
    go Equal e p f Less g = absurd (false≢true (sym not_less ∙ ap is_lt g))
    go Equal e p f Equal g = absurd (false≢true (sym other ∙ sym (is_eq-slice_cmp x name) ∙ ap is_eq g))
    go Equal e Less f Greater g =
        absurd (greater≢less (sym g ∙ sym (alike_right nat_list_cmp_total y name x e) ∙ f))
    go Equal e Equal f Greater g =
        absurd (greater≢equal (sym g ∙ sym (alike_right nat_list_cmp_total y name x e) ∙ f))

-- a name before another isn't that one
less-other : (x name : List ℕ) → is_lt (by x name) ≡ true → bytes_eq x name ≡ false
less-other x name less = sym (is_eq-slice_cmp x name) ∙ go (by x name) less
  where
    go : (o : Ordering) → is_lt o ≡ true → is_eq o ≡ false
    go Less e = refl
    go Equal e = absurd (false≢true e)
    go Greater e = refl

-- ---- sorted entries

rises : (entries : Entries) → AreSorted entries → (n i : ℕ) (d : Entry) → i + n < length entries →
    is_gt (by (key (get_or entries i d)) (key (get_or entries (i + n) d))) ≡ false
rises entries sorted zero i d lt =
    let same : i ≡ i + 0 = omega arith in
    subst (λ k. is_gt (by (key (get_or entries i d)) (key (get_or entries k d))) ≡ false) same
    (ap is_gt (tied_itself nat_list_cmp_total (key (get_or entries i d))))
rises entries sorted (suc n) i d lt =
    let next : i + n + 1 ≡ i + suc n = omega arith in
    subst (λ k. is_gt (by (key (get_or entries i d)) (key (get_or entries k d))) ≡ false) next
    (upto nat_list_cmp_total (key (get_or entries i d)) (key (get_or entries (i + n) d))
    (key (get_or entries (i + n + 1) d))
    (rises entries sorted n i d (omega (arith, lt)))
    (greater-back (key (get_or entries (i + n) d)) (key (get_or entries (i + n + 1) d))
    ∙ sorted (i + n) d (omega arith) (omega (arith, lt))))

rises-to : (entries : Entries) → AreSorted entries → (i j : ℕ) (d : Entry) → i ≤ j →
    j < length entries → is_gt (by (key (get_or entries i d)) (key (get_or entries j d))) ≡ false
rises-to entries sorted i j d le lt =
    let whole : i + (j - i) ≡ j = omega (arith, le) in
    subst (λ k. is_gt (by (key (get_or entries i d)) (key (get_or entries k d))) ≡ false) whole
    (rises entries sorted (j - i) i d (omega (arith, le, lt)))

pub is-parted : (entries : Entries) → AreSorted entries → (name : List ℕ) →
    IsPartitionedBy (λ entry. is_lt (by (key entry) name)) entries
is-parted entries sorted name i j d le lt less =
    less-before (key (get_or entries i d)) (key (get_or entries j d)) name
    (rises-to entries sorted i j d le lt) less

-- ---- the first entry with a name

pub named-at : (entries : Entries) (name : List ℕ) (i : ℕ) (d : Entry) →
    ((k : ℕ) → k < i → bytes_eq (key (get_or entries k d)) name ≡ false) → i < length entries →
    bytes_eq (key (get_or entries i d)) name ≡ true →
    named (name_table entries) name ≡ Some (get_or entries i d).1.now
named-at [] name i d before lt same = absurd (omega (arith, lt))
named-at (entry ∷ entries) name zero d before lt same = rw same refl
named-at (entry ∷ entries) name (suc i) d before lt same =
    rw (before 0 (omega arith))
    (named-at entries name i d (λ k le. before (suc k) (omega (arith, le))) (omega (arith, lt)) same)

pub named-none : (entries : Entries) (name : List ℕ) (d : Entry) →
    ((k : ℕ) → k < length entries → bytes_eq (key (get_or entries k d)) name ≡ false) →
    named (name_table entries) name ≡ None
named-none [] name d other = refl
named-none (entry ∷ entries) name d other =
    rw (other 0 (omega arith)) (named-none entries name d (λ k le. other (suc k) (omega (arith, le))))

-- ---- the place that a search by halves finds

module _ (entries : Entries) (sorted : AreSorted entries) (name : List ℕ) (place : ℕ)
    (parted : IsPartitionPoint (λ entry. is_lt (by (key entry) name) ≡ true)
    (λ entry. is_lt (by (key entry) name) ≡ false) entries place) (d : Entry) where
  before : (k : ℕ) → k < place → bytes_eq (key (get_or entries k d)) name ≡ false
  before k le = less-other (key (get_or entries k d)) name (parted.0 k d (omega arith) le)

  pub found-here : place < length entries → bytes_eq (key (get_or entries place d)) name ≡ true →
      named (name_table entries) name ≡ Some (get_or entries place d).1.now
  found-here lt same = named-at entries name place d before lt same

  pub found-nowhere : (place < length entries →
      bytes_eq (key (get_or entries place d)) name ≡ false) → named (name_table entries) name ≡ None
  found-nowhere other = named-none entries name d (λ k lt. ⊎_elim
      (λ (below : k < place). before k below)
      (λ (above : place ≤ k). same-before (key (get_or entries place d)) (key (get_or entries k d))
      name (rises-to entries sorted place k d above lt)
      (parted.1 place d (omega arith) (omega (arith, above, lt))) (other (omega (arith, above, lt))))
      (cases_lt k place))

-- ---- a stable sort keeps the first entry of each name

abbrev first : Entries → Option (List ℕ)
first [] = None
first (entry ∷ entries) = Some entry.1.now

named-first : (test : Entry → Bool) (name : List ℕ) →
    ((entry : Entry) → test entry ≡ bytes_eq (key entry) name) → (entries : Entries) →
    named (name_table entries) name ≡ first (filter test entries)
named-first test name is [] = refl
named-first test name is (entry ∷ entries) = elim (cases_Bool (bytes_eq (key entry) name)) [
  | inl e ↦ rw (is entry, e) refl
  | inr e ↦ rw (is entry, e) (named-first test name is entries)
]

-- an entry of a name
abbrev of_name : List ℕ → Entry
of_name name = (record { ref_ptr = (0, 0); now = name }, record { ref_ptr = (0, 0); now = [] })

ties-same : (name : List ℕ) (entry : Entry) →
    ties (λ (x y : Entry). is_lt (by (key x) (key y))) (of_name name) entry
    ≡ bytes_eq (key entry) name
ties-same name entry =
    ap (λ b. not b && not (is_lt (by (key entry) name))) (sym (greater-back (key entry) name))
    ∙ go (by (key entry) name) ∙ is_eq-slice_cmp (key entry) name
  where
    go : (o : Ordering) → (not (is_gt o) && not (is_lt o)) ≡ is_eq o
    go Less = refl
    go Equal = refl
    go Greater = refl

pub named-stable : (listed sorted : Entries) → IsStableByKey key by listed sorted →
    (name : List ℕ) → named (name_table sorted) name ≡ named (name_table listed) name
named-stable listed sorted stable name =
    let tied = ties (λ (x y : Entry). is_lt (by (key x) (key y))) (of_name name) in
    named-first tied name (ties-same name) sorted ∙ ap first (stable (of_name name))
    ∙ sym (named-first tied name (ties-same name) listed)
