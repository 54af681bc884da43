-- Names and numbers at the front of a text, where sixteen bytes are compared at once.
use Rattle.std.proofs.Common.{◌≡◌, ℕ, zero, suc, ◌+◌, ◌-◌, ◌<◌, ◌≤◌, Bool, true, false, not, cond}
use Rattle.std.proofs.Common.{List, [], ◌∷◌, ◌++◌, map, length, take, drop, get_or}
use Rattle.std.proofs.Common.{Option, Some, None, refl, sym, ap, ◌∙◌, arith, subst, codes, bytes_eq}
use Rattle.std.specs.Prelude.{nat_le}
use Rattle.std.specs.List.{before_first, list_all, list_any, slice_get}
use Rattle.std.proofs.lemmas.Bool.{and_parts, eqb-true}
use Rattle.std.proofs.lemmas.List.{take_rest}
use Rattle.std.proofs.lemmas.List.Folds.{list_any-append}
use Rattle.std.proofs.lemmas.Option.{slice_get-map}
use Rattle.std.proofs.lemmas.Slice.Eq.{bytes_eq-Decides}
use Rattle.md_script.proofs.NameLemmas.{other_whole}
use Rattle.md_base.specs.declared.event.Kind.{Kind}
use Rattle.md_base.specs.declared.event.Name.{Name}
use Rattle.md_base.specs.declared.event.Point.{Point}
use Rattle.md_base.specs.declared.event.Name.TheVariants.{Other}
use Rattle.md_base.specs.EventNames.{event_names}
use Rattle.md_base.specs.Table.{listed}
use Rattle.md_script.specs.Line.{◌>>=◌, is_space, kind_of, otherwise, other_name, name_of}
use Rattle.md_script.specs.Number.{number_of}
use Rattle.md_script.specs.CommonName.{IsFirstSpace, spelled, named, is_full, AreRows}
use Rattle.md_script.specs.PlainLine.{is_break, BeginsWithEvent, BeginsWithNumber, BeginsWithName}
use Rattle.md_script.specs.PlainLine.{BeginsWithPlace}
use Rattle.md_script.proofs.PlainLemmas.{before_cut, cut_at, none_below, number_is_digits}
use Rattle.md_script.proofs.PlainLemmas.{digits_unbroken, line_placed, line_plain}
use Rattle.md_script.proofs.SixteenBytes.{take_same}

-- ---- rows
abbrev Row : Type 0
Row = List ℕ × Name

row_named : (rows : List Row) (i : ℕ) (row : Row) → map spelled rows ≡ map named rows →
    slice_get rows i ≡ Some row →
    spelled row ≡ named row
row_named rows i row same at =
    let one = rw (at) at (slice_get-map spelled rows i) in
    let two = rw (at) at (slice_get-map named rows i) in cc

row_full : (rows : List Row) (i : ℕ) (row : Row) → list_all is_full rows ≡ true →
    slice_get rows i ≡ Some row →
    is_full row ≡ true
row_full [] i row all at = cc
row_full (first ∷ rows) zero row all at =
    let is : first ≡ row = cc in
    subst (λ r. is_full r ≡ true) is (and_parts (is_full first) (list_all is_full rows) all).0
row_full (first ∷ rows) (suc i) row all at =
    row_full rows i row (and_parts (is_full first) (list_all is_full rows) all).1 at

pub row_read : (rows : List Row) (i : ℕ) (row : Row) (bytes : List ℕ) (size same : ℕ) →
    AreRows rows →
    slice_get rows i ≡ Some row → 16 ≤ length bytes → size < 16 → IsFirstSpace bytes size →
    ((k : ℕ) → k < same → k < 16 → get_or bytes k 0 ≡ get_or row.0 k 0) → size < same →
    BeginsWithName bytes row.1 (take (length bytes - (size + 1)) (drop (size + 1) bytes))
row_read rows i row bytes size same are at long few space equal past =
    let text = row.0 in
    let exact = eqb-true (length text) 16 (row_full rows i row are.sizes at) in
    let inside : size < length text = omega (arith, exact, few) in
    let same_front = take_same bytes text size (omega (arith, few, long)) (omega (arith, inside))
    (λ k low. equal k (omega (arith, low, past)) (omega (arith, low, few))) in
    let none = none_below is_space text size
    (λ k low. ap is_space (sym (equal k (omega (arith, low, past)) (omega (arith, low, few))))
    ∙ space.none k low) in
    let cut = cut_at text size 32 inside (sym (equal size past few) ∙ space.there) in
    let before : before_first is_space text ≡ take size text =
    ap (before_first is_space) cut
    ∙ before_cut is_space (take size text) 32 (drop (size + 1) text) none refl in
    record {
      text = take size bytes;
      whole = cut_at bytes size 32 (omega (arith, few, long)) space.there
          ∙ ap (λ rest. take size bytes ++ 32 ∷ rest) (sym (take_rest bytes (size + 1)));
      says =
          ap name_of (same_front ∙ sym before)
          ∙ ap (λ name. otherwise name (other_name (before_first is_space text)))
          (row_named rows i row are.names at);
    }

-- ---- `Other`
abbrev numbered : ℕ → Option Name
numbered number = cond (nat_le number 65535) (Some (Other number)) None

pub other_read : (bytes digits following : List ℕ) (number : ℕ) (name : Name) →
    bytes_eq (take 5 bytes) (codes "Other") ≡ true → digits ≡ drop 5 bytes →
    BeginsWithNumber 5 32 digits number following → Some name ≡ numbered number →
    BeginsWithName bytes name following
other_read bytes digits following number name other rest read is =
    let spelling = read.digits in
    let same : other_name (codes "Other" ++ spelling) ≡ name_of (codes "Other" ++ spelling) =
    refl in
    record {
      text = codes "Other" ++ spelling;
      whole = other_whole bytes other ∙ ap (λ d. codes "Other" ++ d) (sym rest ∙ read.whole);
      says = sym same ∙ ap (λ n. n >>= numbered) read.value ∙ sym is;
    }

-- ---- a name has no space and no line feed
abbrev is_whole : List ℕ × Name → Bool
is_whole entry = not (list_any is_break entry.0)

listed_unbroken : (table : List (List ℕ × Name)) (text : List ℕ) (name : Name) →
    list_all is_whole table ≡ true →
    listed table text ≡ Some name → list_any is_break text ≡ false
listed_unbroken [] text name all = λ found. cc
listed_unbroken (entry ∷ table) text name all =
    grind (arith, bytes_eq-Decides, listed_unbroken table text name)

names_whole : list_all is_whole event_names ≡ true
names_whole = refl

other_unbroken : (text : List ℕ) (name : Name) (test : Bool) (number : Option ℕ) →
    test ≡ bytes_eq (take 5 text) (codes "Other") → number ≡ number_of 5 (drop 5 text) →
    cond test (number >>= numbered) None ≡ Some name → list_any is_break text ≡ false
other_unbroken text name false number et en e = cc
other_unbroken text name true None et en e = cc
other_unbroken text name true (Some n) et en e =
    let all = number_is_digits 5 (drop 5 text) n _ _ refl refl (sym en) in
    ap (list_any is_break) (other_whole text (sym et))
    ∙ list_any-append is_break (codes "Other") (drop 5 text)
    ∙ digits_unbroken (drop 5 text) all

named_unbroken : (text : List ℕ) (name : Name) (first second : Option Name) →
    first ≡ listed event_names text →
    second ≡ other_name text → otherwise first second ≡ Some name → list_any is_break text ≡ false
named_unbroken text name (Some found) second ef es e =
    listed_unbroken event_names text found names_whole (sym ef)
named_unbroken text name None second ef es e = other_unbroken text name _ _ refl refl (sym es ∙ e)

pub line_common :
    (sign : ℕ) (input rest place following : List ℕ) (kind : Kind) (name : Name) (index : ℕ) →
    input ≡ sign ∷ rest → kind_of sign ≡ Some kind → BeginsWithName rest name place →
    BeginsWithNumber 9 10 place index following →
    BeginsWithEvent input (record {
      kind = kind;
      name = name;
      point = record { line = 1; column = 1; index = index; vs = 0 };
    }) following
line_common sign input rest place following kind name index is ek read number =
    line_plain sign read.text place input following kind name index
    (is ∙ ap (λ r. sign ∷ r) read.whole) ek read.says
    (named_unbroken read.text name _ _ refl refl read.says) number

pub line_cut :
    (sign : ℕ) (input rest place following : List ℕ) (kind : Kind) (name : Name) (point : Point) →
    input ≡ sign ∷ rest → kind_of sign ≡ Some kind → BeginsWithName rest name place →
    BeginsWithPlace place point following →
    BeginsWithEvent input (record { kind = kind; name = name; point = point }) following
line_cut sign input rest place following kind name point is ek read said =
    line_placed sign read.text place input following kind name point
    (is ∙ ap (λ r. sign ∷ r) read.whole) ek read.says
    (named_unbroken read.text name _ _ refl refl read.says) said
