-- Plain lines, read in one go.
use Rattle.std.proofs.Common.{◌≡◌, ℕ, zero, suc, ◌+◌, Bool, true, false, not, cond, ◌&&◌, ◌||◌}
use Rattle.std.proofs.Common.{List, [], ◌∷◌, ◌++◌, length, take, drop, get_or, ◌<◌, ◌≤◌}
use Rattle.std.proofs.Common.{Some, None}
use Rattle.std.proofs.Common.{refl, sym, ap, ◌∙◌, arith, leb, eqb, ◌-◌}
use Rattle.std.specs.Prelude.{position}
use Rattle.std.specs.List.{before_first, after_first, list_any, position_or_len}
use Rattle.std.specs.List.{slice_split}
use Rattle.std.specs.Char.{is_ascii_digit}
use Rattle.std.specs.Str.{all_ascii_digits}
use Rattle.std.specs.Str.Parse.{digits_value}
use Rattle.std.proofs.lemmas.Bool.{le-leb, eqb-true}
use Rattle.std.proofs.lemmas.Bool.{ltb-false}
use Rattle.std.proofs.lemmas.List.{append_assoc, length-append, take-append-drop, drop_more}
use Rattle.std.proofs.lemmas.List.{length-take-le, take_all, take_at, take_rest}
use Rattle.std.proofs.lemmas.List.Sums.{fails_before_first}
use Rattle.std.proofs.lemmas.List.Folds.{list_any-append}
use Rattle.std.proofs.lemmas.List.Splits.{slice_split-cons_no, slice_split-cons_yes}
use Rattle.md_base.specs.declared.event.Kind.{Kind}
use Rattle.md_base.specs.declared.event.Name.{Name}
use Rattle.md_base.specs.declared.event.Point.{Point}
use Rattle.md_script.specs.Line.{is_dot, is_space, is_line_feed, lines_of, kind_of, name_of}
use Rattle.md_script.specs.Line.{point_of, event_of}
use Rattle.md_script.specs.Number.{number_of}
use Rattle.md_script.specs.PlainLine.{is_break, BeginsWithEvent, BeginsWithNumber}
use Rattle.md_script.specs.PlainLine.{BeginsWithPlace}
use Rattle.md_script.proofs.SplitLemmas.{any_by_place}

-- ---- a list that is cut at its first byte of a kind

module _ (p : ℕ → Bool) where
  place_of : (xs : List ℕ) (c : ℕ) (ys : List ℕ) → list_any p xs ≡ false → p c ≡ true →
      position_or_len p (xs ++ c ∷ ys) ≡ length xs
  place_of [] c ys none hit = ap (λ t. cond (not t) (1 + position_or_len p ys) 0) hit
  place_of (x ∷ xs) c ys none hit = let there = place_of xs c ys in grind (arith, there, none, hit)

  back : (xs : List ℕ) (c : ℕ) (ys : List ℕ) → drop (suc (length xs)) (xs ++ c ∷ ys) ≡ ys
  back [] c ys = refl
  back (x ∷ xs) c ys = back xs c ys

  pub before_cut : (xs : List ℕ) (c : ℕ) (ys : List ℕ) → list_any p xs ≡ false → p c ≡ true →
      before_first p (xs ++ c ∷ ys) ≡ xs
  before_cut xs c ys none hit =
      ap (λ n. take n (xs ++ c ∷ ys)) (place_of xs c ys none hit)
      ∙ take_at xs (c ∷ ys) (length xs) refl

  pub after_cut : (xs : List ℕ) (c : ℕ) (ys : List ℕ) → list_any p xs ≡ false → p c ≡ true →
      after_first p (xs ++ c ∷ ys) ≡ ys
  after_cut xs c ys none hit = grind (arith, place_of, back)

  pub before_none : (xs : List ℕ) → list_any p xs ≡ false → before_first p xs ≡ xs
  before_none xs none =
      take_all (position_or_len p xs) xs (ltb-false (position_or_len p xs) (length xs)
      (sym (any_by_place p xs) ∙ none))

  pub split_cut : (xs : List ℕ) (c : ℕ) (ys : List ℕ) → list_any p xs ≡ false → p c ≡ true →
      slice_split p (xs ++ c ∷ ys) ≡ xs ∷ slice_split p ys
  split_cut [] c ys none hit = slice_split-cons_yes p c ys hit
  split_cut (x ∷ xs) c ys none hit = grind (arith, slice_split-cons_no, split_cut xs c ys)

  pub none_below : (xs : List ℕ) (n : ℕ) → ((k : ℕ) → k < n → p (get_or xs k 0) ≡ false) →
      list_any p (take n xs) ≡ false
  none_below xs zero none = refl
  none_below [] (suc n) none = refl
  none_below (x ∷ xs) (suc n) none =
      rw (none 0 (omega arith)) (none_below xs n (λ k low. none (suc k) (omega (arith, low))))

  place_found : (n i : ℕ) (test : Bool) → Some i ≡ cond test (Some n) None → i ≡ n
  place_found n i true e = cc
  place_found n i false e = cc

  pub none_until : (xs : List ℕ) (i : ℕ) → Some i ≡ position p xs → list_any p (take i xs) ≡ false
  none_until xs i e =
      none_below xs i (λ k low. fails_before_first p xs k 0
      (omega (arith, low, place_found (position_or_len p xs) i _ e)))

pub cut_at : (xs : List ℕ) (i c : ℕ) → i < length xs → get_or xs i 0 ≡ c →
    xs ≡ take i xs ++ c ∷ drop (i + 1) xs
cut_at xs i c inside is =
    sym (take-append-drop i xs) ∙ ap (λ l. take i xs ++ l) (drop_more xs i 0 inside)
    ∙ ap (λ b. take i xs ++ b ∷ drop (i + 1) xs) is

-- ---- digits

digit_is_not : (c other : ℕ) → other < 48 → is_ascii_digit c ≡ true → eqb c other ≡ false
digit_is_not c other low h = grind (arith, low, h)

digits_without : (p : ℕ → Bool) → ((c : ℕ) → is_ascii_digit c ≡ true → p c ≡ false) →
    (digits : List ℕ) → all_ascii_digits digits ≡ true → list_any p digits ≡ false
digits_without p none [] all = refl
digits_without p none (d ∷ digits) all =
    let later = digits_without p none digits in grind (arith, later, none d, all)

digits_are_none : (digits : List ℕ) → all_ascii_digits digits ≡ true →
    (list_any is_dot digits ≡ false) × (list_any is_line_feed digits ≡ false)
digits_are_none digits all = grind (arith, digits_without, digit_is_not)

pub digits_unbroken : (digits : List ℕ) → all_ascii_digits digits ≡ true →
    list_any is_break digits ≡ false
digits_unbroken digits all =
    digits_without is_break (λ c h. ap (λ t. t || is_line_feed c)
    (digit_is_not c 32 (omega arith) h) ∙ digit_is_not c 10 (omega arith) h) digits all

pub number_is_digits : (most : ℕ) (digits : List ℕ) (n : ℕ) (a b : Bool) →
    a ≡ (leb 1 (length digits) && leb (length digits) most) → b ≡ all_ascii_digits digits →
    cond (a && b) (Some (digits_value 10 digits)) None ≡ Some n → b ≡ true
number_is_digits most digits n a b ea eb e = grind (arith, e)

number_digits : (digits : List ℕ) (n : ℕ) → number_of 9 digits ≡ Some n →
    all_ascii_digits digits ≡ true
number_digits digits n e = number_is_digits 9 digits n _ _ refl refl e

-- digits up to a byte
pub number_read : (bytes : List ℕ) (i most end number : ℕ) → i < length bytes →
    get_or bytes i 0 ≡ end → 0 < i →
    i ≤ most → number ≡ digits_value 10 (take i bytes) → all_ascii_digits (take i bytes) ≡ true →
    BeginsWithNumber most end bytes number (take (length bytes - (i + 1)) (drop (i + 1) bytes))
number_read bytes i most end number inside ends some few value all =
    let size = length-take-le i bytes (omega (arith, inside)) in
    record {
      digits = take i bytes;
      whole = cut_at bytes i end inside ends
          ∙ ap (λ rest. take i bytes ++ end ∷ rest) (sym (take_rest bytes (i + 1)));
      value =
          rw (le-leb 1 (length (take i bytes)) (omega (arith, size, some)))
          (rw (le-leb (length (take i bytes)) most (omega (arith, size, few)), all, value) refl);
    }

pub index_read_at : (bytes : List ℕ) (i size index : ℕ) → size ≡ i → i < length bytes →
    get_or bytes i 0 ≡ 10 →
    0 < size → size ≤ 9 → index ≡ digits_value 10 (take i bytes) →
    all_ascii_digits (take i bytes) ≡ true →
    BeginsWithNumber 9 10 bytes index (take (length bytes - (size + 1)) (drop (size + 1) bytes))
index_read_at bytes i size index place inside feed some few value all =
    rw place (number_read bytes i 9 10 index inside feed (omega (arith, place, some))
    (omega (arith, place, few)) value all)

-- ---- the event of a plain line

abbrev place : ℕ → Point
place index = record { line = 1; column = 1; index = index; vs = 0 }

point_plain : (digits : List ℕ) (index : ℕ) → number_of 9 digits ≡ Some index →
    point_of digits ≡ Some (place index)
point_plain digits index value =
    let none = (digits_are_none digits (number_digits digits index value)).0 in
    rw (before_none is_dot digits none, none, value) refl

unbroken : (text : List ℕ) → list_any is_break text ≡ false →
    (list_any is_space text ≡ false) × (list_any is_line_feed text ≡ false)
unbroken [] none = (refl, refl)
unbroken (x ∷ text) none = grind (arith, unbroken text)

sign_is_none : (sign : ℕ) (kind : Kind) → kind_of sign ≡ Some kind → is_line_feed sign ≡ false
sign_is_none sign kind e = grind (arith, eqb-true)

event_placed : (sign : ℕ) (text said : List ℕ) (kind : Kind) (name : Name) (point : Point) →
    kind_of sign ≡ Some kind →
    name_of text ≡ Some name → point_of said ≡ Some point → list_any is_space text ≡ false →
    event_of (sign ∷ (text ++ 32 ∷ said))
    ≡ Some (record { kind = kind; name = name; point = point })
event_placed sign text said kind name point ek en ep none =
    rw (before_cut is_space text 32 said none refl, after_cut is_space text 32 said none refl)
    (rw (ek, en, ep) refl)

pub line_placed :
    (sign : ℕ) (text rest input following : List ℕ) (kind : Kind) (name : Name) (point : Point) →
    input ≡ sign ∷ (text ++ 32 ∷ rest) → kind_of sign ≡ Some kind → name_of text ≡ Some name →
    list_any is_break text ≡ false → BeginsWithPlace rest point following →
    BeginsWithEvent input (record { kind = kind; name = name; point = point }) following
line_placed sign text rest input following kind name point is ek en none read =
    let said = read.text in
    let line = sign ∷ (text ++ 32 ∷ said) in
    let free = unbroken text none in
    let same : input ≡ line ++ 10 ∷ following =
    is ∙ ap (λ r. sign ∷ (text ++ 32 ∷ r)) read.whole ∙ sym
    (ap (λ l. sign ∷ l) (append_assoc text (32 ∷ said) (10 ∷ following))) in
    let after : list_any is_line_feed (text ++ 32 ∷ said) ≡ false =
    rw (list_any-append is_line_feed text (32 ∷ said), free.1) read.uncut in
    let whole : list_any is_line_feed line ≡ false = rw (sign_is_none sign kind ek) after in
    record {
      line = line;
      cut = ap lines_of same ∙ split_cut is_line_feed line 10 following whole refl;
      size = let long : length input ≡ length line + length (10 ∷ following) = ap length same
          ∙ length-append line (10 ∷ following) in omega (arith, long);
      says = event_placed sign text said kind name point ek en read.says free.0;
    }

index_placed : (rest following : List ℕ) (index : ℕ) → BeginsWithNumber 9 10 rest index following →
    BeginsWithPlace rest (place index) following
index_placed rest following index read = record {
  text = read.digits;
  whole = read.whole;
  says = point_plain read.digits index read.value;
  uncut = (digits_are_none read.digits (number_digits read.digits index read.value)).1;
}

pub line_plain :
    (sign : ℕ) (text rest input following : List ℕ) (kind : Kind) (name : Name) (index : ℕ) →
    input ≡ sign ∷ (text ++ 32 ∷ rest) → kind_of sign ≡ Some kind → name_of text ≡ Some name →
    list_any is_break text ≡ false → BeginsWithNumber 9 10 rest index following →
    BeginsWithEvent input (record { kind = kind; name = name; point = place index }) following
line_plain sign text rest input following kind name index is ek en none read =
    line_placed sign text rest input following kind name (place index) is ek en none
    (index_placed rest following index read)

-- ---- a place within a tab

pub place_cut : (bytes columns following : List ℕ) (index vs : ℕ) →
    BeginsWithNumber 9 46 bytes index columns →
    BeginsWithNumber 3 10 columns vs following →
    BeginsWithPlace bytes (record { line = 1; column = 1; index = index; vs = vs }) following
place_cut bytes columns following index vs front back =
    let first = front.digits in
    let second = back.digits in
    let said = first ++ 46 ∷ second in
    let none = digits_are_none first (number_is_digits 9 first index _ _ refl refl front.value) in
    let others = digits_are_none second (number_is_digits 3 second vs _ _ refl refl back.value) in
    let dotted : list_any is_dot said ≡ true =
    rw (list_any-append is_dot first (46 ∷ second), none.0) refl in
    record {
      text = said;
      whole = front.whole ∙ ap (λ c. first ++ 46 ∷ c) back.whole
          ∙ sym (append_assoc first (46 ∷ second) (10 ∷ following));
      says =
          rw (before_cut is_dot first 46 second none.0 refl, dotted, front.value)
          (rw (after_cut is_dot first 46 second none.0 refl, back.value) refl);
      uncut = rw (list_any-append is_line_feed first (46 ∷ second), none.1) others.1;
    }
