-- Openers, and the pairs of a closer.
use Rattle.std.proofs.Common.{◌≡◌, ◌≤◌, ◌<◌, ◌+◌, ◌-◌, ℕ, zero, suc, Bool, true, false, List, []}
use Rattle.std.proofs.Common.{◌∷◌, ◌++◌, refl, sym, ap, ◌∙◌, arith, get_or, length, reverse, take}
use Rattle.std.proofs.Common.{ap₂, ◌%◌, subst, ⊎_elim, length-set, set}
use Rattle.std.proofs.Math.Nat.{mod-add-mod, mod-lt}
use Rattle.std.proofs.Math.Seq.{take-suc}
use Rattle.std.proofs.lemmas.Bool.{cases_lt, and_parts, eqb-true, eq-eqb, ltb-true, lt-ltb}
use Rattle.std.proofs.lemmas.Bool.{cases_order}
use Rattle.std.proofs.lemmas.List.{reverse-append, get_or-set_other, get_or-set_same, get_or-take}
use Rattle.std.proofs.lemmas.List.{length-take, take_more_set, take-set}
use Rattle.std.specs.Prelude.{◌⊎◌, Some, None, ◌==◌, ◌&&◌, ◌||◌, not, nat_lt, if◌then◌else◌}
use Rattle.md_marks.specs.declared.delimiters.Delimiter.{Delimiter}
use Rattle.md_marks.specs.declared.token.Token.{Token}
use Rattle.md_marks.specs.Emphasis.{available, is_fair, is_unused, may_pair, pair_width}
use Rattle.md_marks.specs.Openers.{AreBottoms, AreOpen, found_at, kept_to, kind_of, no_run}
use Rattle.md_marks.specs.Pairs.{Closed, Pair, closed, closer_left, nearest, opener_left, pair_of}
use Rattle.md_marks.specs.Pairs.{paired_first, unpaired, with_left, with_pair, with_pairs, joined}
use Rattle.md_marks.specs.Pairs.{start_mark, end_mark}
use Rattle.md_marks.specs.declared.token.Mark.{Mark}

-- ---- the nearest opener
nearest-last : (closer : Delimiter) (xs : List Delimiter) (n : ℕ) → n < length xs →
    nearest closer (reverse (take (suc n) xs))
    ≡ nearest closer (get_or xs n no_run ∷ reverse (take n xs))
nearest-last closer xs n within =
    ap (λ l. nearest closer (reverse l)) (take-suc xs n no_run within)
    ∙ ap (λ l. nearest closer l) (reverse-append (take n xs) (get_or xs n no_run ∷ []))

pub passed-last : (closer : Delimiter) (xs : List Delimiter) (n : ℕ) → n < length xs →
    may_pair (get_or xs n no_run) closer ≡ false →
    nearest closer (reverse (take (suc n) xs)) ≡ nearest closer (reverse (take n xs))
passed-last closer xs n within fits = nearest-last closer xs n within ∙ rw fits refl

pub none-below : (closer : Delimiter) (xs : List Delimiter) (n : ℕ) → n ≤ length xs →
    ((i : ℕ) → i < n → may_pair (get_or xs i no_run) closer ≡ false) →
    nearest closer (reverse (take n xs)) ≡ None
none-below closer xs zero within none = refl
none-below closer xs (suc n) within none =
    passed-last closer xs n (omega (arith, within)) (none n (omega arith))
    ∙ none-below closer xs n (omega (arith, within)) (λ i lt. none i (omega (arith, lt)))

-- none from an index on matches, if none after it does
pub none-from : (closer : Delimiter) (xs : List Delimiter) (n : ℕ) →
    may_pair (get_or xs n no_run) closer ≡ false →
    ((i : ℕ) → suc n ≤ i → i < length xs → may_pair (get_or xs i no_run) closer ≡ false) →
    (i : ℕ) → n ≤ i → i < length xs → may_pair (get_or xs i no_run) closer ≡ false
none-from closer xs n here later i from within = ⊎_elim
    (λ (lt : n < i). later i (omega (arith, lt)) within)
    (λ (le : i ≤ n). subst (λ j. may_pair (get_or xs j no_run) closer ≡ false)
    (omega (arith, le, from)) here) (cases_lt n i)

-- ---- what a pair takes
-- at least a byte of each of the two, and no more than they have
pub width-some : (opener closer : Delimiter) → 0 < available opener →
    0 < pair_width opener closer
width-some opener closer left = by (closer.byte == 126)
    (nat_lt 1 (available opener) && nat_lt 1 (available closer))
  where
    by : (tildes two : Bool) → 0 < (if tildes then available opener else if two then 2 else 1)
    by true two = left
    by false true = omega arith
    by false false = omega arith

pub width-opener : (opener closer : Delimiter) → 0 < available opener →
    pair_width opener closer ≤ available opener
width-opener opener closer left = grind (arith, left)

-- ---- kinds of closers
abbrev thirds : Delimiter → ℕ
thirds run = run.length % 3 + (if run.opens then 3 else 0)

few : (run : Delimiter) → thirds run < 6
few run = by run.opens
  where
    small : run.length % 3 < 3
    small = mod-lt run.length (omega arith)

    by : (opens : Bool) → run.length % 3 + (if opens then 3 else 0) < 6
    by true = omega (arith, small)
    by false = omega (arith, small)

-- the kinds, by what is known of a run
data Kind (run : Delimiter) : Type 0 where
  Star : run.byte ≡ 42 → kind_of run ≡ thirds run → Kind run
  Line : run.byte ≡ 95 → kind_of run ≡ thirds run + 6 → Kind run
  One : run.byte ≡ 126 → is_unused run ≡ true → run.length ≡ 1 → kind_of run ≡ 12 → Kind run
  Two : run.byte ≡ 126 → is_unused run ≡ true → run.length ≡ 2 → kind_of run ≡ 13 → Kind run
  Other : kind_of run ≡ 14 → Kind run

kind : (run : Delimiter) → Kind run
kind run = by (run.byte == 42) refl
  where
    two : (tilde : Bool) → tilde ≡ (run.byte == 126) → (unused : Bool) → unused ≡ is_unused run →
        (is : Bool) → is ≡ (run.length == 2) → (run.byte == 42) ≡ false →
        (run.byte == 95) ≡ false → (run.length == 1) ≡ false → Kind run
    two true t true u true l a b o = Two (eqb-true run.byte 126 (sym t)) (sym u)
        (eqb-true run.length 2 (sym l)) (rw (a, b, sym t, sym u, o, sym l) refl)
    two true t true u false l a b o = Other (rw (a, b, sym t, sym u, o, sym l) refl)
    two true t false u is l a b o = Other (rw (a, b, sym t, sym u) refl)
    two false t unused u is l a b o = Other (rw (a, b, sym t) refl)

    one : (tilde : Bool) → tilde ≡ (run.byte == 126) → (unused : Bool) → unused ≡ is_unused run →
        (is : Bool) → is ≡ (run.length == 1) → (run.byte == 42) ≡ false →
        (run.byte == 95) ≡ false → Kind run
    one true t true u true l a b = One (eqb-true run.byte 126 (sym t)) (sym u)
        (eqb-true run.length 1 (sym l)) (rw (a, b, sym t, sym u, sym l) refl)
    one tilde t unused u false l a b =
        two tilde t unused u (run.length == 2) refl a b (sym l)
    one true t false u true l a b = Other (rw (a, b, sym t, sym u) refl)
    one false t unused u true l a b = Other (rw (a, b, sym t) refl)

    line : (is : Bool) → is ≡ (run.byte == 95) → (run.byte == 42) ≡ false → Kind run
    line true b a = Line (eqb-true run.byte 95 (sym b)) (rw (a, sym b) refl)
    line false b a = one (run.byte == 126) refl (is_unused run) refl (run.length == 1) refl a
        (sym b)

    by : (is : Bool) → is ≡ (run.byte == 42) → Kind run
    by true a = Star (eqb-true run.byte 42 (sym a)) (rw (sym a) refl)
    by false a = line (run.byte == 95) refl (sym a)

-- the same thirds, the same parts
same-opens : (c d : Delimiter) → thirds c ≡ thirds d → c.opens ≡ d.opens
same-opens c d same = by c.opens d.opens same
  where
    small : c.length % 3 < 3
    small = mod-lt c.length (omega arith)

    small-too : d.length % 3 < 3
    small-too = mod-lt d.length (omega arith)

    by : (opens too : Bool) → c.length % 3 + (if opens then 3 else 0)
        ≡ d.length % 3 + (if too then 3 else 0) → opens ≡ too
    by true true e = refl
    by false false e = refl
    by true false e = absurd (omega (arith, e, small, small-too))
    by false true e = absurd (omega (arith, e, small, small-too))

same-third : (c d : Delimiter) → thirds c ≡ thirds d → c.length % 3 ≡ d.length % 3
same-third c d same = by c.opens d.opens same
  where
    small : c.length % 3 < 3
    small = mod-lt c.length (omega arith)

    small-too : d.length % 3 < 3
    small-too = mod-lt d.length (omega arith)

    by : (opens too : Bool) → c.length % 3 + (if opens then 3 else 0)
        ≡ d.length % 3 + (if too then 3 else 0) → c.length % 3 ≡ d.length % 3
    by true true e = omega (arith, e)
    by false false e = omega (arith, e)
    by true false e = absurd (omega (arith, e, small, small-too))
    by false true e = absurd (omega (arith, e, small, small-too))

same-sum : (x c d : ℕ) → c % 3 ≡ d % 3 → (x + c) % 3 ≡ (x + d) % 3
same-sum x c d same =
    let turn : (n : ℕ) → (x + n) % 3 ≡ (n % 3 + x) % 3 =
    λ n. ap (λ s. s % 3) (omega arith) ∙ sym (mod-add-mod n 3 x) in
    turn c ∙ ap (λ r. (r + x) % 3) same ∙ sym (turn d)

same-fair : (x c d : ℕ) → c % 3 ≡ d % 3 → is_fair x c ≡ is_fair x d
same-fair x c d same =
    ap₂ (λ r s. (x % 3 == 0 && r == 0) || not (s == 0)) same (same-sum x c d same)

-- whether an opener fits, by the parts of a closer
abbrev fits_by : Delimiter → ℕ → Bool → Bool → Bool → Bool
fits_by opener byte opens fair tildes =
    opener.byte == byte && (if byte == 126 then tildes else not (opener.closes || opens) || fair)

abbrev tildes_fit : Delimiter → Delimiter → Bool
tildes_fit opener closer =
    opener.length == closer.length && (is_unused opener && is_unused closer)

module _ (x c d : Delimiter) where
  marks-alike : (byte : ℕ) → (byte == 126) ≡ false → c.byte ≡ byte → d.byte ≡ byte →
      thirds c ≡ thirds d → may_pair x c ≡ may_pair x d
  marks-alike byte other b b' same =
      let fair : Delimiter → Bool = λ run. is_fair x.length run.length in
      ap (λ n. fits_by x n c.opens (fair c) (tildes_fit x c)) b
      ∙ rw other (ap₂ (λ o f. x.byte == byte && (not (x.closes || o) || f)) (same-opens c d same)
      (same-fair x.length c.length d.length (same-third c d same)))
      ∙ ap (λ n. fits_by x n d.opens (fair d) (tildes_fit x d)) (sym b')

  tildes-alike : c.byte ≡ 126 → d.byte ≡ 126 → c.length ≡ d.length → is_unused c ≡ true →
      is_unused d ≡ true → may_pair x c ≡ may_pair x d
  tildes-alike b b' l u u' =
      let fair : Delimiter → Bool = λ run. is_fair x.length run.length in
      ap (λ n. fits_by x n c.opens (fair c) (tildes_fit x c)) b
      ∙ ap₂ (λ n v. x.byte == 126 && (x.length == n && (is_unused x && v))) l (u ∙ sym u')
      ∙ ap (λ n. fits_by x n d.opens (fair d) (tildes_fit x d)) (sym b')

  alike : Kind c → Kind d → kind_of c ≡ kind_of d → kind_of c < 14 → may_pair x c ≡ may_pair x d
  alike (Star b k) (Star b' k') e lt = marks-alike 42 refl b b' (sym k ∙ e ∙ k')
  alike (Line b k) (Line b' k') e lt =
      marks-alike 95 refl b b' (omega (arith, k, k', e))
  alike (One b u l k) (One b' u' l' k') e lt = tildes-alike b b' (l ∙ sym l') u u'
  alike (Two b u l k) (Two b' u' l' k') e lt = tildes-alike b b' (l ∙ sym l') u u'
  alike (Star b k) (Line b' k') e lt = absurd (omega (arith, k, k', e, few c))
  alike (Star b k) (One b' u' l' k') e lt = absurd (omega (arith, k, k', e, few c))
  alike (Star b k) (Two b' u' l' k') e lt = absurd (omega (arith, k, k', e, few c))
  alike (Line b k) (Star b' k') e lt = absurd (omega (arith, k, k', e, few d))
  alike (Line b k) (One b' u' l' k') e lt = absurd (omega (arith, k, k', e, few c))
  alike (Line b k) (Two b' u' l' k') e lt = absurd (omega (arith, k, k', e, few c))
  alike (One b u l k) (Star b' k') e lt = absurd (omega (arith, k, k', e, few d))
  alike (One b u l k) (Line b' k') e lt = absurd (omega (arith, k, k', e, few d))
  alike (One b u l k) (Two b' u' l' k') e lt = absurd (omega (arith, k, k', e))
  alike (Two b u l k) (Star b' k') e lt = absurd (omega (arith, k, k', e, few d))
  alike (Two b u l k) (Line b' k') e lt = absurd (omega (arith, k, k', e, few d))
  alike (Two b u l k) (One b' u' l' k') e lt = absurd (omega (arith, k, k', e))
  alike (Other k) other e lt = absurd (omega (arith, k, lt))
  alike (Star b k) (Other k') e lt = absurd (omega (arith, k', e, lt))
  alike (Line b k) (Other k') e lt = absurd (omega (arith, k', e, lt))
  alike (One b u l k) (Other k') e lt = absurd (omega (arith, k', e, lt))
  alike (Two b u l k) (Other k') e lt = absurd (omega (arith, k', e, lt))

-- openers match closers of a kind alike
pub same-kind : (x c d : Delimiter) → kind_of c ≡ kind_of d → kind_of c < 14 →
    may_pair x c ≡ may_pair x d
same-kind x c d = alike x c d (kind c) (kind d)

-- ---- what is left to pair
-- pairing from here on gives what pairing from the beginning does
pub record LeadsTo (openers : List Delimiter) (closer : Delimiter) (tokens : List Token)
    (openers0 : List Delimiter) (closer0 : Delimiter) (tokens0 : List Token) : Type 0 where
  pub steps : ℕ
  pub enough : available closer ≤ steps
  pub before : (closed steps (reverse openers) closer).before
      ≡ (closed (available closer0) (reverse openers0) closer0).before
  pub left : (closed steps (reverse openers) closer).closer
      ≡ (closed (available closer0) (reverse openers0) closer0).closer
  pub marks : with_pairs (closed steps (reverse openers) closer).pairs tokens
      ≡ with_pairs (closed (available closer0) (reverse openers0) closer0).pairs tokens0

-- the closer after a pair
module _ (xs ys : List Delimiter) (c : Delimiter) (t : List Token) (h : ℕ)
    (some : 0 < available c)
    (found : nearest c (reverse xs) ≡ Some (found_at xs h))
    (opens : 0 < available (found_at xs h).opener)
    (left : reverse ys ≡ with_left (opener_left (pair_width (found_at xs h).opener c)
    (found_at xs h).opener) (found_at xs h).before) where
  abbrev one : Delimiter
  one = closer_left (pair_width (found_at xs h).opener c) c

  one-step : (n : ℕ) → closed (suc n) (reverse xs) c
      ≡ paired_first (pair_of (found_at xs h).opener c) (closed n (reverse ys) one)
  one-step n = rw (lt-ltb 0 (available c) some, found, closed)
      (ap (λ before. paired_first (pair_of (found_at xs h).opener c) (closed n before one)) (sym left))

  shorter : (n : ℕ) → available c ≤ suc n → available one ≤ n
  shorter n enough =
      omega (arith, enough, width-some (found_at xs h).opener c opens)

  pub leads-on : (xs0 : List Delimiter) (c0 : Delimiter) (t0 : List Token) →
      LeadsTo xs c t xs0 c0 t0 →
      LeadsTo ys one (with_pair (pair_of (found_at xs h).opener c) t) xs0 c0 t0
  leads-on xs0 c0 t0 leads = by leads.steps leads.enough leads.before leads.left leads.marks
    where
      d0 : Closed
      d0 = closed (available c0) (reverse xs0) c0

      by : (n : ℕ) → available c ≤ n → (closed n (reverse xs) c).before ≡ d0.before →
          (closed n (reverse xs) c).closer ≡ d0.closer →
          with_pairs (closed n (reverse xs) c).pairs t ≡ with_pairs d0.pairs t0 →
          LeadsTo ys one (with_pair (pair_of (found_at xs h).opener c) t) xs0 c0 t0
      by zero enough b l m = absurd (omega (arith, enough, some))
      by (suc n) enough b l m = record {
        steps = n;
        enough = shorter n enough;
        before = sym (ap (λ d. d.before) (one-step n)) ∙ b;
        left = sym (ap (λ d. d.closer) (one-step n)) ∙ l;
        marks = sym (ap (λ d. with_pairs d.pairs t) (one-step n)) ∙ m;
      }

-- no opener is left for a closer, or no byte of it
pub ends-none : (n : ℕ) (before : List Delimiter) (c : Delimiter) → nearest c before ≡ None →
    closed n before c ≡ unpaired before c
ends-none zero before c none = refl
ends-none (suc n) before c none = by (nat_lt 0 (available c))
  where
    by : (some : Bool) → (elim (if some then nearest c before else None) [
      | None ↦ unpaired before c
      | Some found ↦ paired_first (pair_of found.opener c) (closed n
          (with_left (opener_left (pair_width found.opener c) found.opener) found.before)
          (closer_left (pair_width found.opener c) c))
    ]) ≡ unpaired before c
    by true = rw none refl
    by false = refl

-- ---- the openers after a pair
pub kept-reversed : (h : ℕ) (left : Delimiter) (xs : List Delimiter) → h < length xs →
    reverse (kept_to h left xs) ≡ with_left left (reverse (take h xs))
kept-reversed h left xs within = by (nat_lt 0 (available left))
  where
    more : suc h ≡ h + 1
    more = omega arith

    by : (some : Bool) → reverse (take (if some then suc h else h) (set xs h left))
        ≡ (if some then left ∷ reverse (take h xs) else reverse (take h xs))
    by true = ap (λ n. reverse (take n (set xs h left))) more
        ∙ ap (λ l. reverse l) (take_more_set xs h left within)
        ∙ reverse-append (take h xs) (left ∷ [])
    by false = ap (λ l. reverse l) (take-set xs h left)

-- an opener that is kept is one as it was, or what is left of the last one
pub kept-at : (P : Delimiter → Type 0) (h : ℕ) (left : Delimiter) (xs : List Delimiter) →
    h < length xs → (i : ℕ) → i < length (kept_to h left xs) →
    (i < h → P (get_or xs i no_run)) → (i ≡ h → 0 < available left → P left) →
    P (get_or (kept_to h left xs) i no_run)
kept-at P h left xs within i lt old new = by (nat_lt 0 (available left)) refl lt
  where
    here : List Delimiter
    here = set xs h left

    before : i < h → P (get_or here i no_run)
    before less = subst P (sym (get_or-set_other xs h i left no_run (λ e. absurd (omega (arith, e, less)))))
        (old less)

    at : i ≡ h → 0 < available left → P (get_or here i no_run)
    at same some = subst (λ j. P (get_or (set xs h left) j no_run)) (sym same)
        (subst P (sym (get_or-set_same xs h left no_run within)) (new same some))

    by : (some : Bool) → some ≡ nat_lt 0 (available left) →
        i < length (take (if some then suc h else h) here) →
        P (get_or (take (if some then suc h else h) here) i no_run)
    by true is less =
        let few : i < suc h = omega (arith, less, length-take (suc h) here) in
        subst P (sym (get_or-take (suc h) here i no_run few)) (⊎_elim
        (λ (lower : i < h). before lower)
        (λ (upper : h ≤ i). at (omega (arith, few, upper)) (ltb-true 0 (available left) (sym is)))
        (cases_lt i h))
    by false is less =
        let few : i < h = omega (arith, less, length-take h here) in
        subst P (sym (get_or-take h here i no_run few)) (before few)

pub kept-open : (h : ℕ) (left : Delimiter) (xs : List Delimiter) → h < length xs → AreOpen xs →
    AreOpen (kept_to h left xs)
kept-open h left xs within are i lt =
    kept-at (λ run. 0 < available run) h left xs within i lt
    (λ less. are i (omega (arith, less, within))) (λ same some. some)

-- what is left of an opener matches no closer that the opener doesn't match
left-fits : (o c other : Delimiter) → may_pair o c ≡ true →
    0 < available (opener_left (pair_width o c) o) → may_pair o other ≡ false →
    may_pair (opener_left (pair_width o c) o) other ≡ false
left-fits o c other fits some none = by (other.byte == 126) refl none
  where
    w : ℕ
    w = pair_width o c

    tilde : (is : Bool) → is ≡ (o.byte == other.byte) → other.byte ≡ 126 →
        (is && (o.length == other.length && (is_unused (opener_left w o) && is_unused other))) ≡ false
    tilde false is b = refl
    tilde true is b =
        let same : o.byte ≡ c.byte = eqb-true o.byte c.byte
        (and_parts (o.byte == c.byte) (if c.byte == 126 then tildes_fit o c
        else not (o.closes || c.opens) || is_fair o.length c.length) fits).0 in
        let too : (c.byte == 126) ≡ true = eq-eqb c.byte 126
        (sym same ∙ eqb-true o.byte other.byte (sym is) ∙ b) in
        let all : pair_width o c ≡ available o = rw too refl in
        absurd (omega (arith, some, all))

    by : (tildes : Bool) → tildes ≡ (other.byte == 126) → (o.byte == other.byte && (if tildes
        then tildes_fit o other else not (o.closes || other.opens)
        || is_fair o.length other.length)) ≡ false →
        (o.byte == other.byte && (if tildes then tildes_fit (opener_left w o) other
        else not (o.closes || other.opens) || is_fair o.length other.length)) ≡ false
    by true is n = tilde (o.byte == other.byte) refl (eqb-true other.byte 126 (sym is))
    by false is n = n

pub kept-bottoms : (bottoms low : List ℕ) (h : ℕ) (c : Delimiter) (xs : List Delimiter) →
    h < length xs → may_pair (get_or xs h no_run) c ≡ true → AreBottoms bottoms xs →
    length low ≡ 14 → ((k : ℕ) → get_or low k 0 ≤ length (kept_to h
    (opener_left (pair_width (get_or xs h no_run) c) (get_or xs h no_run)) xs)) →
    ((k : ℕ) → get_or low k 0 ≤ get_or bottoms k 0) →
    AreBottoms low (kept_to h (opener_left (pair_width (get_or xs h no_run) c)
    (get_or xs h no_run)) xs)
kept-bottoms bottoms low h c xs within fits are count most less = record {
  count = count;
  within = most;
  none = λ other i lt. kept-at (λ run. may_pair run other ≡ false) h _ xs within i
      (omega (arith, lt, most (kind_of other)))
      (λ lower. are.none other i (omega (arith, lt, less (kind_of other))))
      (λ same some. left-fits (get_or xs h no_run) c other fits some
      (subst (λ j. may_pair (get_or xs j no_run) other ≡ false) same
      (are.none other i (omega (arith, lt, less (kind_of other))))));
}

-- no opener matches a closer, so none matches one of its kind
pub known-bottoms : (bottoms : List ℕ) (xs : List Delimiter) (c : Delimiter) → kind_of c < 14 →
    ((i : ℕ) → i < length xs → may_pair (get_or xs i no_run) c ≡ false) → AreBottoms bottoms xs →
    AreBottoms (set bottoms (kind_of c) (length xs)) xs
known-bottoms bottoms xs c known no-one are = record {
  count = length-set bottoms (kind_of c) (length xs) ∙ are.count;
  within = λ k. by-kind (λ n. n ≤ length xs) k (λ same. omega arith) (λ others. are.within k);
  none = λ other i. by-kind
      (λ n. i < n → may_pair (get_or xs i no_run) other ≡ false) (kind_of other)
      (λ same lt. sym (same-kind (get_or xs i no_run) c other (sym same) known) ∙ no-one i lt)
      (λ others. are.none other i);
}
  where
    by-kind : (P : ℕ → Type 0) (k : ℕ) → (k ≡ kind_of c → P (length xs)) →
        ((k ≡ kind_of c → ⊥) → P (get_or bottoms k 0)) →
        P (get_or (set bottoms (kind_of c) (length xs)) k 0)
    by-kind P k same others = ⊎_elim
        (λ (is : k ≡ kind_of c). subst P (sym (subst
        (λ j. get_or (set bottoms (kind_of c) (length xs)) j 0 ≡ length xs) (sym is)
        (get_or-set_same bottoms (kind_of c) (length xs) 0 (omega (arith, known, are.count)))))
        (same is))
        (λ (isnt : (k < kind_of c) ⊎ (kind_of c < k)).
        let differs : k ≡ kind_of c → ⊥ = λ e. ⊎_elim
        (λ (lower : k < kind_of c). omega (arith, e, lower))
        (λ (upper : kind_of c < k). omega (arith, e, upper)) isnt in
        subst P (sym (get_or-set_other bottoms (kind_of c) k (length xs) 0 differs)) (others differs))
        (cases_order k (kind_of c))

-- ---- the pairs of all runs
pub pairs-joined : (a b : List Pair) (t : List Token) →
    with_pairs (a ++ b) t ≡ with_pairs b (with_pairs a t)
pairs-joined [] b t = refl
pairs-joined (pair ∷ a) b t = pairs-joined a b (with_pair pair t)

-- what a closer is left with when nothing matches it, or nothing is left of it
pub leads-end : (xs : List Delimiter) (c : Delimiter) (t : List Token) (xs0 : List Delimiter)
    (c0 : Delimiter) (t0 : List Token) → LeadsTo xs c t xs0 c0 t0 →
    ((n : ℕ) → closed n (reverse xs) c ≡ unpaired (reverse xs) c) →
    (c ≡ (closed (available c0) (reverse xs0) c0).closer)
    × (reverse xs ≡ (closed (available c0) (reverse xs0) c0).before)
    × (t ≡ with_pairs (closed (available c0) (reverse xs0) c0).pairs t0)
leads-end xs c t xs0 c0 t0 leads ends =
    let e = ends leads.steps in (
      sym (ap (λ d. d.closer) e) ∙ leads.left,
      sym (ap (λ d. d.before) e) ∙ leads.before,
      sym (ap (λ d. with_pairs d.pairs t) e) ∙ leads.marks,
    )

-- what a pair changes, in the words of the code
module _ (xs : List Delimiter) (c : Delimiter) (h : ℕ) (within : h < length xs) where
  abbrev opener : Delimiter
  opener = get_or xs h no_run

  abbrev left : Delimiter
  left = opener_left (pair_width (get_or xs h no_run) c) (get_or xs h no_run)

  pub pair-leads : (ys : List Delimiter) (d : Delimiter) (t u : List Token)
      (xs0 : List Delimiter) (c0 : Delimiter) (t0 : List Token) → 0 < available c →
      nearest c (reverse xs) ≡ Some (found_at xs h) → AreOpen xs → ys ≡ kept_to h left xs →
      d ≡ closer_left (pair_width opener c) c → u ≡ with_pair (pair_of opener c) t →
      LeadsTo xs c t xs0 c0 t0 → LeadsTo ys d u xs0 c0 t0
  pair-leads ys d t u xs0 c0 t0 some found are kept is marked leads =
      subst (λ d. LeadsTo ys d u xs0 c0 t0) (sym is) (subst
      (λ u. LeadsTo ys (closer_left (pair_width opener c) c) u xs0 c0 t0) (sym marked)
      (leads-on xs ys c t h some found (are h within)
      (ap (λ l. reverse l) kept ∙ kept-reversed h left xs within) xs0 c0 t0 leads))

-- the tokens of a pair, in the words of the code
pub joins : (run opener closer : Delimiter) (w : ℕ) (start end : Mark) (t : List Token) →
    run ≡ opener → w ≡ pair_width run closer → w ≤ run.end → start ≡ start_mark closer.byte w →
    end ≡ end_mark closer.byte w →
    joined end closer.start ((closer.start + w) - closer.start)
    (joined start (run.end - w) (run.end - (run.end - w)) t) ≡ with_pair (pair_of opener closer) t
joins run opener closer w start end t same is within starts ends =
    let a : (closer.start + w) - closer.start ≡ w = omega arith in
    let b : run.end - (run.end - w) ≡ w = omega (arith, within) in
    ap (λ n. joined end closer.start n (joined start (run.end - w) (run.end - (run.end - w)) t)) a
    ∙ ap (λ n. joined end closer.start w (joined start (run.end - w) n t)) b
    ∙ ap₂ (λ s e. joined e closer.start w (joined s (run.end - w) w t)) starts ends
    ∙ ap (λ v. joined (end_mark closer.byte v) closer.start v
    (joined (start_mark closer.byte v) (run.end - v) v t)) is
    ∙ ap (λ r. with_pair (pair_of r closer) t) same
