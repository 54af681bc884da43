-- The names of events by their length, and `Other`.
use Rattle.std.proofs.Common.{◌≡◌, ℕ, zero, suc, ◌+◌, ◌<◌, ◌≤◌, true, false, leb, List, []}
use Rattle.std.proofs.Common.{◌∷◌, ◌++◌, length, take, drop, Option, Some, None, refl, sym, ap, ◌∙◌}
use Rattle.std.proofs.Common.{arith, inl, inr, codes, bytes_eq}
use Rattle.std.specs.Prelude.{filter, option_map, option_and_then}
use Rattle.std.specs.Borrow.{Bor}
use Rattle.std.specs.List.{list_all, slice_get}
use Rattle.std.proofs.lemmas.Bool.{cases_Bool, leb-true, leb-false}
use Rattle.std.proofs.lemmas.List.{take-append-drop}
use Rattle.std.proofs.lemmas.Option.{slice_get_past}
use Rattle.std.proofs.lemmas.Slice.Eq.{bytes_eq-Decides}
use Rattle.std.proofs.lemmas.Bool.Decides.{nat_tests}
use Rattle.md_base.specs.declared.event.Name.{Name}
use Rattle.md_base.specs.declared.event.Name.TheVariants.{Other}
use Rattle.md_base.specs.EventNames.{event_names}
use Rattle.md_script.specs.Line.{otherwise, other_name, name_of}
use Rattle.md_base.specs.NamesByLength.{is_long, names_of_length, IsByLength}
use Rattle.md_base.specs.Table.{entries_of, listed}
use Rattle.md_script.proofs.SettingLemmas.{find-filter}

other_length : (text : List ℕ) (entry : List ℕ × Name) → is_long (length text) entry ≡ false →
    bytes_eq entry.0 text ≡ false
other_length text entry other =
    let same = (bytes_eq-Decides entry.0 text).0 in grind (arith, nat_tests, same, other)

-- only names that are as long can be the text
pub listed_by_length : (text : List ℕ) →
    listed (names_of_length (length text)) text ≡ listed event_names text
listed_by_length text =
    ap (option_map (λ entry. entry.1)) (find-filter (λ entry. bytes_eq entry.0 text)
    (is_long (length text)) (other_length text) event_names)

none_long : (table : List (List ℕ × Name)) (size : ℕ) →
    list_all (λ entry. leb (length entry.0) 35) table ≡ true →
    36 ≤ size → filter (is_long size) table ≡ []
none_long [] size all long = refl
none_long (entry ∷ table) size all long =
    let later = none_long table size in grind (arith, nat_tests, later, all, long)

pub unlisted_long : (text : List ℕ) → 36 ≤ length text → listed event_names text ≡ None
unlisted_long text long =
    sym (listed_by_length text)
    ∙ ap (λ table. listed table text) (none_long event_names (length text) refl long)

-- ---- tables that stand at their lengths

abbrev Table : Type 0
Table = Bor (List (Bor (List ℕ) × Name))

abbrev in_table : List ℕ → Option Table → Option Name
in_table text table = option_and_then (λ names. listed (entries_of names.now) text) table

at_place : (tables : List Table) (first i : ℕ) (text : List ℕ) →
    IsByLength tables first → i < length tables →
    in_table text (slice_get tables i) ≡ listed (names_of_length (first + i)) text
at_place [] first i text are inside = absurd (omega (arith, inside))
at_place (table ∷ tables) first zero text are inside =
    let same : first ≡ first + zero = omega arith in
    ap (λ names. listed names text) are.0 ∙ ap (λ size. listed (names_of_length size) text) same
at_place (table ∷ tables) first (suc i) text are inside =
    let same : suc first + i ≡ first + suc i = omega arith in
    at_place tables (suc first) i text are.1 (omega (arith, inside))
    ∙ ap (λ size. listed (names_of_length size) text) same

-- what is found at the length of a text is what is listed
pub at_length : (tables : List Table) (text : List ℕ) → length tables ≡ 36 → IsByLength tables 0 →
    in_table text (slice_get tables (length text)) ≡ listed event_names text
at_length tables text many are =
    elim (cases_Bool (leb 36 (length text))) [
      | inl long ↦ grind (arith, leb-true, slice_get_past, unlisted_long)
      | inr short ↦
          let same : 0 + length text ≡ length text = omega arith in
          let least = leb-false 36 (length text) short in
          at_place tables 0 (length text) text are (omega (arith, many, least))
          ∙ ap (λ size. listed (names_of_length size) text) same ∙ listed_by_length text
    ]

-- ---- `Other`

otherwise_none : (name : Option Name) → otherwise name None ≡ name
otherwise_none None = refl
otherwise_none (Some name) = refl

pub other_whole : (text : List ℕ) → bytes_eq (take 5 text) (codes "Other") ≡ true →
    text ≡ codes "Other" ++ drop 5 text
other_whole text other =
    rw ((bytes_eq-Decides (take 5 text) (codes "Other")).0 other) at (sym (take-append-drop 5 text))

pub name_of_other : (text digits : List ℕ) → bytes_eq (take 5 text) (codes "Other") ≡ true →
    digits ≡ drop 5 text →
    other_name (codes "Other" ++ digits) ≡ name_of text
name_of_other text digits other rest =
    let same : other_name (codes "Other" ++ digits) ≡ name_of (codes "Other" ++ digits) = refl in
    same ∙ ap name_of (ap (λ d. codes "Other" ++ d) rest ∙ sym (other_whole text other))

pub name_of_listed : (text : List ℕ) → bytes_eq (take 5 text) (codes "Other") ≡ false →
    listed event_names text ≡ name_of text
name_of_listed text other =
    rw other (sym (otherwise_none (listed event_names text)))
