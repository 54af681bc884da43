-- In a settled pattern, the first item that takes a symbol is the right one, and the symbols that
-- are taken so fit the pattern. Settled: after an item that may be left out, each later item that
-- takes one of its symbols may be there any number of times.
use Rattle.std.proofs.Common.{arith, ◌≡◌, Bool, true, false, not, ◌&&◌, ◌||◌, List, [], ◌∷◌, refl}
use Rattle.std.proofs.Common.{cond, if◌then◌else◌, Option, Some, None, ap, ◌++◌, length, sym}
use denote.Enum.Bare.{sameb}
use Rattle.std.specs.List.{list_any}
use Rattle.md_tree.proofs.Common.{list_all, the_type, Symbol, Role, Class, Item, Many, members}
use Rattle.md_tree.proofs.Common.{class_of, takes, pattern_of, is_optional, Once, Maybe, Fits}
use Rattle.md_tree.proofs.Common.{IsCount}

pub and_left : (a b : Bool) → (a && b) ≡ true → a ≡ true
and_left a b e = grind arith

pub and_right : (a b : Bool) → (a && b) ≡ true → b ≡ true
and_right a b e = grind arith

pub and_both : (a b : Bool) → a ≡ true → b ≡ true → (a && b) ≡ true
and_both a b e f = grind arith

-- an item may be there any number of times
abbrev pub is_many : Item → Bool
is_many (Many class) = true
is_many _ = false

-- no symbol is in both classes
abbrev pub apart : Class → Class → Bool
apart class other = list_all (λ member. not (takes other member)) (members class)

-- after an item that may be left out, each later item that takes one of its symbols may be there
-- any number of times
abbrev pub leaves_order : Item → Item → Bool
leaves_order item later = is_many later || apart (class_of item) (class_of later)

abbrev pub settled : List Item → Bool
settled [] = true
settled (item ∷ items) =
    (not (is_optional item) || list_all (leaves_order item) items) && settled items

pub pattern_settled : (role : Role) → settled (pattern_of role) ≡ true
pattern_settled role = grind arith

-- each of the items that takes the symbol may be there any number of times
abbrev pub only_many : Symbol → List Item → Bool
only_many symbol items = list_all (λ item. is_many item || not (takes (class_of item) symbol)) items

taken_step : (p : Symbol → Bool) (symbols : List Symbol) (member seen : Symbol) →
    (list_any (λ m. sameb the_type m seen) symbols ≡ true →
    list_all p symbols ≡ true → p seen ≡ true) → (same : Bool) → sameb the_type member seen ≡ same →
    (same || list_any (λ m. sameb the_type m seen) symbols) ≡ true
    → (p member && list_all p symbols) ≡ true → p seen ≡ true
taken_step p symbols member seen again same e there all = grind arith

pub taken : (p : Symbol → Bool) (symbols : List Symbol) (seen : Symbol) →
    list_any (λ m. sameb the_type m seen) symbols ≡ true → list_all p symbols ≡ true → p seen ≡ true
taken p [] seen there all = cc
taken p (member ∷ symbols) seen there all = taken_step p symbols member seen (taken p symbols seen)
    _ refl there all

only_many_here : (class : Class) (item : Item) (symbol : Symbol) →
    takes class symbol ≡ true → (many : Bool) → (many || apart class (class_of item)) ≡ true →
    (many || not (takes (class_of item) symbol)) ≡ true
only_many_here class item symbol takes_it many e = grind (arith, taken)

pub only_many_after : (item : Item) (items : List Item) (symbol : Symbol) →
    takes (class_of item) symbol ≡ true →
    list_all (leaves_order item) items ≡ true → only_many symbol items ≡ true
only_many_after item [] symbol taken e = refl
only_many_after item (later ∷ items) symbol taken e =
    and_both _ _ (only_many_here (class_of item) later symbol taken (is_many later)
    (and_left _ _ e)) (only_many_after item items symbol taken (and_right _ _ e))

-- The rest of a pattern after a symbol, and the proof that the symbols taken fit the pattern.

-- the rest of a pattern after a symbol
abbrev pub kept : Item → List Item → List Item
kept (Many class) items = Many class ∷ items
kept item items = items

abbrev pub left_after : List Item → Symbol → Option (List Item)
left_after [] symbol = None
left_after (item ∷ items) symbol =
    if takes (class_of item) symbol then Some (kept item items)
    else (if is_optional item then left_after items symbol else None)

-- one more symbol
one_more : (item : Item) (items : List Item) (symbol : Symbol) (symbols : List Symbol) →
    takes (class_of item) symbol ≡ true → Fits (kept item items) symbols →
    Fits (item ∷ items) (symbol ∷ symbols)
one_more (Many class) items symbol symbols taken fit = (
  symbol ∷ fit.0,
  fit.1,
  ap (λ s. symbol ∷ s) fit.2,
  and_both _ _ taken fit.3,
  tt,
  fit.5,
)
one_more (Once class) items symbol symbols taken fit =
    (symbol ∷ [], symbols, refl, and_both _ _ taken refl, refl, fit)
one_more (Maybe class) items symbol symbols taken fit =
    (symbol ∷ [], symbols, refl, and_both _ _ taken refl, omega arith, fit)

pub fits_nothing : (items : List Item) → list_all is_optional items ≡ true → Fits items []
fits_nothing [] e = refl
fits_nothing (item ∷ items) e = grind (arith, fits_nothing items)

fits_back_taken : (item : Item) (items left : List Item) (symbol : Symbol) (symbols : List Symbol) →
    Fits left symbols → (left_after items symbol ≡ Some left → Fits items (symbol ∷ symbols)) →
    (taken : Bool) → takes (class_of item) symbol ≡ taken → cond taken (Some (kept item items))
    (cond (is_optional item) (left_after items symbol) None) ≡ Some left →
    Fits (item ∷ items) (symbol ∷ symbols)
fits_back_taken item items left symbol symbols fit again taken t e = grind (arith, one_more)

-- what a reading takes fits
pub fits_back : (items left : List Item) (symbol : Symbol) (symbols : List Symbol) →
    left_after items symbol ≡ Some left → Fits left symbols → Fits items (symbol ∷ symbols)
fits_back [] left symbol symbols e fit = cc
fits_back (item ∷ items) left symbol symbols e fit = grind (arith, fits_back items, fits_back_taken)

-- where each item that takes it may be there any number of times, a first symbol may go
one_less_own :
    (item : Item) (items : List Item) (symbol : Symbol) (symbols own others : List Symbol) →
    (is_many item || not (takes (class_of item) symbol)) ≡ true →
    (Fits items (symbol ∷ symbols) → Fits items symbols) → symbol ∷ symbols ≡ own ++ others →
    list_all (takes (class_of item)) own ≡ true → IsCount item (length own) → Fits items others →
    Fits (item ∷ items) symbols
one_less_own item items symbol symbols [] others many again e all count fit =
    ([], symbols, refl, refl, count, again (rw e fit))
one_less_own item items symbol symbols (first ∷ own) others many again e all count fit =
    grind (arith, and_left, and_right)

one_less : (items : List Item) (symbol : Symbol) (symbols : List Symbol) →
    only_many symbol items ≡ true → Fits items (symbol ∷ symbols) → Fits items symbols
one_less [] symbol symbols many fit = cc
one_less (item ∷ items) symbol symbols many fit =
    one_less_own item items symbol symbols fit.0 fit.1 (and_left _ _ many)
    (one_less items symbol symbols (and_right _ _ many)) fit.2 fit.3 fit.4 fit.5

no_more : (own others symbols : List Symbol) → length own ≡ 0 →
    symbols ≡ own ++ others → others ≡ symbols
no_more [] others symbols e f = sym f
no_more (x ∷ own) others symbols e f = absurd (omega arith)

-- an item that takes the symbol
fits_here : (item : Item) (items : List Item) (symbol : Symbol) (symbols own others : List Symbol) →
    takes (class_of item) symbol ≡ true → settled (item ∷ items) ≡ true →
    symbol ∷ symbols ≡ own ++ others → list_all (takes (class_of item)) own ≡ true →
    IsCount item (length own) → Fits items others → Fits (kept item items) symbols
fits_here (Many class) items symbol symbols (first ∷ own) others taken ok e all count fit =
    (own, others, (cc), and_right _ _ all, tt, fit)
fits_here item items symbol symbols [] others taken ok e all count fit =
    grind (arith, one_less, only_many_after, and_left)
fits_here item items symbol symbols (first ∷ own) others taken ok e all count fit =
    rw (no_more own others symbols (omega arith) (cc)) at fit

settled_kept : (item : Item) (items : List Item) → settled (item ∷ items) ≡ true →
    settled (kept item items) ≡ true
settled_kept (Maybe class) items ok = and_right _ _ ok
settled_kept _ items ok = ok

-- the rest of the pattern takes the rest of the symbols
pub record GoesOn (items : List Item) (symbol : Symbol) (symbols : List Symbol) : Type 0 where
  pub left : List Item
  pub is_left : left_after items symbol ≡ Some left
  pub fits : Fits left symbols
  pub ok : settled left ≡ true

fits_past : (item : Item) (items : List Item) (symbol : Symbol) (symbols own others : List Symbol) →
    takes (class_of item) symbol ≡ false → symbol ∷ symbols ≡ own ++ others →
    list_all (takes (class_of item)) own ≡ true → IsCount item (length own) → Fits items others →
    (Fits items (symbol ∷ symbols) → GoesOn items symbol symbols) →
    GoesOn (item ∷ items) symbol symbols
fits_past item items symbol symbols [] others t e all count fit again = grind arith
fits_past item items symbol symbols (first ∷ own) others t e all count fit again = grind arith

fits_on_taken : (item : Item) (items : List Item) (symbol : Symbol) (symbols : List Symbol) →
    settled (item ∷ items) ≡ true → Fits (item ∷ items) (symbol ∷ symbols) →
    (Fits items (symbol ∷ symbols) → GoesOn items symbol symbols) → (taken : Bool) →
    takes (class_of item) symbol ≡ taken → GoesOn (item ∷ items) symbol symbols
fits_on_taken item items symbol symbols ok fit again true t =
    record {
      left = kept item items;
      is_left = rw t;
      fits = fits_here item items symbol symbols fit.0 fit.1 t ok fit.2 fit.3 fit.4 fit.5;
      ok = settled_kept item items ok;
    }
fits_on_taken item items symbol symbols ok fit again false t =
    fits_past item items symbol symbols fit.0 fit.1 t fit.2 fit.3 fit.4 fit.5 again

pub fits_on : (items : List Item) (symbol : Symbol) (symbols : List Symbol) → settled items ≡ true →
    Fits items (symbol ∷ symbols) → GoesOn items symbol symbols
fits_on [] symbol symbols ok fit = cc
fits_on (item ∷ items) symbol symbols ok fit = grind (arith, fits_on items, fits_on_taken)

all_out : (item : Item) (items : List Item) (own others : List Symbol) → [] ≡ own ++ others →
    IsCount item (length own) → Fits items others →
    (Fits items [] → list_all is_optional items ≡ true) → list_all is_optional (item ∷ items) ≡ true
all_out item items [] others e count fit again = grind arith
all_out item items (x ∷ own) others e count fit again = cc

pub nothing_fits : (items : List Item) → Fits items [] → list_all is_optional items ≡ true
nothing_fits [] fit = refl
nothing_fits (item ∷ items) fit = grind (arith, nothing_fits items, all_out)
