-- A spot in a pattern: the items that are left, and the stage of a group. Reading goes from spot to
-- spot.
use Rattle.std.proofs.Common.{arith, ◌≡◌, inl, inr, ℕ, zero, suc, ◌+◌, Bool, true, cond, Option}
use Rattle.std.proofs.Common.{Some, None, List, [], ◌∷◌, ◌++◌, drop, replicate, refl, sym, ap, ◌∙◌}
use Rattle.std.proofs.Common.{add-one}
use Rattle.md_tree.proofs.Common.{list_all, option_map, Symbol, Item, Stage, Whole, Numeric}
use Rattle.md_tree.proofs.Common.{Hexadecimal, Setext, State, Fits, IsTail, IsGrouped, begun_by}
use Rattle.md_tree.proofs.Common.{next_stage, is_optional, items_of, advance, Role, pattern_of}
use Rattle.md_tree.proofs.Common.{Matches, is_whole, is_complete, start_of}
use Rattle.md_pattern.specs.declared.kinds.Symbol.TheVariants as symbol_variants
use symbol_variants.{ReferenceMarker, SetextText, SetextUnderline, LineEnding}
use Rattle.md_pattern.specs.Steps.{next_position, seek, moved}
use Rattle.md_tree.proofs.Patterns.{settled, kept, left_after, fits_on, nothing_fits, and_both}
use Rattle.md_tree.proofs.Patterns.{pattern_settled}

-- the items that are left and the stage of a group
pub data Spot : Type 0 where
  At : List Item → Stage → Spot

abbrev pub spot_of : State → Spot
spot_of state = At (items_of state) state.stage

-- a symbol moves from spot to spot
abbrev pub spot_after : List Item → Stage → Symbol → Option Spot
spot_after items Whole symbol =
    option_map (λ left. At left (begun_by symbol)) (left_after items symbol)
spot_after items stage symbol = option_map (λ next. At items next) (next_stage stage symbol)

-- symbols, in sequence
abbrev pub Goes : List Item → Stage → List Symbol → Spot → Type 0
Goes items stage [] to = At items stage ≡ to
Goes items stage (symbol ∷ symbols) to =
    (left : List Item) × (next : Stage) × (spot_after items stage symbol ≡ Some (At left next))
    × Goes left next symbols to

-- the same with states
abbrev pub Feeds : State → List Symbol → State → Type 0
Feeds from [] to = from ≡ to
Feeds from (symbol ∷ symbols) to =
    (next : State) × (advance from symbol ≡ Some next) × Feeds next symbols to

pub Feeds-append : (from middle to : State) (symbols others : List Symbol) →
    Feeds from symbols middle → Feeds middle others to → Feeds from (symbols ++ others) to
Feeds-append from middle to [] others e f = rw e f
Feeds-append from middle to (symbol ∷ symbols) others e f =
    (e.0, e.1, Feeds-append e.0 middle to symbols others e.2 f)

pub Feeds-split : (from to : State) (symbols others : List Symbol) →
    Feeds from (symbols ++ others) to →
    (middle : State) × Feeds from symbols middle × Feeds middle others to
Feeds-split from to [] others f = (from, refl, f)
Feeds-split from to (symbol ∷ symbols) others f = grind (arith, Feeds-split f.0 to symbols)

option_map-option_map : {A B C : Type 0} (f : A → B) (g : B → C) (o : Option A) →
    option_map g (option_map f o) ≡ option_map (λ x. g (f x)) o
option_map-option_map f g o = grind arith

-- what a mapped option comes from
pub option_map-some : {A B : Type 0} (f : A → B) (o : Option A) (y : B) → option_map f o ≡ Some y →
    (x : A) × (o ≡ Some x) × (f x ≡ y)
option_map-some f o y e = grind arith

tail_of : {A : Type 0} (xs : List A) (k : ℕ) (x : A) (ys : List A) → x ∷ ys ≡ drop k xs →
    ys ≡ drop (suc k) xs
tail_of [] zero x ys e = cc
tail_of [] (suc k) x ys e = cc
tail_of (z ∷ xs) zero x ys e = let h : ys ≡ xs = cc in h
tail_of (z ∷ xs) (suc k) x ys e = tail_of xs k x ys e

sought_here : (all : List Item) (item : Item) (items : List Item) (k : ℕ) →
    item ∷ items ≡ drop k all → drop (next_position item k) all ≡ kept item items
sought_here all item items k e = grind (arith, tail_of, add-one)

seek_step : (all : List Item) (item : Item) (items : List Item) (k : ℕ) (symbol : Symbol) →
    drop (next_position item k) all ≡ kept item items →
    option_map (λ n. drop n all) (seek (k + 1) items symbol) ≡ left_after items symbol →
    (taken optional : Bool) → option_map (λ n. drop n all) (cond taken (Some (next_position item k))
    (cond optional (seek (k + 1) items symbol) None)) ≡ cond taken (Some (kept item items))
    (cond optional (left_after items symbol) None)
seek_step all item items k symbol here later taken optional = grind arith

seek_leaves : (all items : List Item) (k : ℕ) (symbol : Symbol) → items ≡ drop k all →
    option_map (λ n. drop n all) (seek k items symbol) ≡ left_after items symbol
seek_leaves all [] k symbol e = refl
seek_leaves all (item ∷ items) k symbol e =
    seek_step all item items k symbol (sought_here all item items k e)
    (seek_leaves all items (k + 1) symbol (rw add-one (tail_of all k item items e))) _ _

moved_spot : (all : List Item) (stage : Stage) (k : ℕ) (symbol : Symbol) →
    option_map (λ (n : ℕ × Stage). At (drop n.0 all) n.1) (moved stage k (drop k all) symbol)
    ≡ spot_after (drop k all) stage symbol
moved_spot all Whole k symbol = simp (← seek_leaves all _ k symbol refl, option_map-option_map)
moved_spot all stage k symbol = grind arith

advance_spot : (state : State) (symbol : Symbol) → option_map spot_of (advance state symbol)
    ≡ spot_after (items_of state) state.stage symbol
advance_spot state symbol =
    rw option_map-option_map (moved_spot _ state.stage state.position symbol)

-- what a symbol leaves alone
pub advance_role : (state next : State) (symbol : Symbol) → advance state symbol ≡ Some next →
    (next.role ≡ state.role) × (next.before ≡ Some symbol)
advance_role state next symbol e =
    let m = option_map-some _ _ next e in
    (ap (λ (s : State). s.role) (sym m.2), ap (λ (s : State). s.before) (sym m.2))

pub at_items : {items left : List Item} {stage next : Stage} → At items stage ≡ At left next →
    (items ≡ left) × (stage ≡ next)
at_items e = (cc, cc)

-- what spots do, states do
pub Feeds-from_goes : (from : State) (symbols : List Symbol) (to : Spot) →
    Goes (items_of from) from.stage symbols to →
    (end : State) × Feeds from symbols end × (spot_of end ≡ to)
Feeds-from_goes from [] to g = (from, refl, g)
Feeds-from_goes from (symbol ∷ symbols) to g =
    let step =
    option_map-some spot_of _ _ (advance_spot from symbol ∙ g.2) in
    let next = step.0 in
    let same = at_items step.2 in
    let rest = Feeds-from_goes next symbols to (rw (same.0, same.1) g.3) in
    (rest.0, (next, step.1, rest.1), rest.2)

pub Goes-from_feeds : (from : State) (symbols : List Symbol) (to : State) → Feeds from symbols to →
    Goes (items_of from) from.stage symbols (spot_of to)
Goes-from_feeds from [] to f = ap spot_of f
Goes-from_feeds from (symbol ∷ symbols) to f = (
  items_of f.0,
  State.stage f.0,
  sym (advance_spot from symbol) ∙ ap (option_map spot_of) f.1,
  Goes-from_feeds f.0 symbols to f.2,
)

Goes-append : (items left : List Item) (stage next : Stage) (symbols others : List Symbol)
    (to : Spot) → Goes items stage symbols (At left next) → Goes left next others to →
    Goes items stage (symbols ++ others) to
Goes-append items left stage next [] others to g h = grind arith
Goes-append items left stage next (symbol ∷ symbols) others to g h =
    grind (arith, Goes-append g.0 left g.1 next symbols others to g.3 h)

goes_endings : (left : List Item) (n : ℕ) →
    Goes left Setext (replicate n LineEnding ++ SetextUnderline ∷ []) (At left Whole)
goes_endings left zero = (left, Whole, refl, refl)
goes_endings left (suc n) = (left, Setext, refl, goes_endings left n)

goes_tail : (left : List Item) (first : Symbol) (tail : List Symbol) → IsTail first tail →
    Goes left (begun_by first) tail (At left Whole)
goes_tail left ReferenceMarker tail (inl e) = rw e (left, Whole, refl, refl)
goes_tail left ReferenceMarker tail (inr (inl e)) =
    rw e (left, Numeric, refl, (left, Whole, refl, refl))
goes_tail left ReferenceMarker tail (inr (inr e)) =
    rw e (left, Numeric, refl, (left, Hexadecimal, refl, (left, Whole, refl, refl)))
goes_tail left SetextText tail t = rw t.1 (goes_endings left t.0)
goes_tail left _ tail e = rw e

-- the pattern's own spines are read to an end
pub goes_whole : (items : List Item) (firsts spine : List Symbol) → settled items ≡ true →
    IsGrouped firsts spine → Fits items firsts →
    (left : List Item) × Goes items Whole spine (At left Whole) × (list_all is_optional left ≡ true)
goes_whole items [] spine ok grouped fit = (items, rw grouped, nothing_fits items fit)
goes_whole items (first ∷ firsts) spine ok grouped fit =
    let on = fits_on items first firsts ok fit in
    let rest = goes_whole on.left firsts grouped.1 on.ok grouped.4 on.fits in (
      rest.0,
      rw grouped.2 (
        on.left,
        begun_by first,
        ap (option_map (λ left. At left (begun_by first))) on.is_left,
        Goes-append on.left on.left (begun_by first) Whole grouped.0 grouped.1 _
            (goes_tail on.left first grouped.0 grouped.3) rest.1,
      ),
      rest.2,
    )

-- a spine that matches is read to an end
pub Feeds-matches : (role : Role) (spine : List Symbol) → Matches role spine →
    (end : State) × Feeds (start_of role) spine end × (is_complete end ≡ true)
Feeds-matches role spine matches =
    let whole =
    goes_whole (pattern_of role) matches.0 spine (pattern_settled role) matches.1 matches.2 in
    let feeds = Feeds-from_goes _ spine _ whole.1 in
    let end = feeds.0 in
    let same = at_items feeds.2 in (
      end,
      feeds.1,
      and_both _ _ (ap is_whole same.1) (rw same.0 whole.2),
    )
