-- What the reading of a spine symbol by symbol says of it: it matches its pattern, ends in a group
-- that is open, or may end after some more symbols.
use Rattle.std.proofs.Common.{arith, ◌≡◌, inl, inr, ℕ, zero, suc, Bool, true, Option, Some}
use Rattle.std.proofs.Common.{None, List, [], ◌∷◌, ◌++◌, replicate, refl, sym, ap, ◌∙◌, MatchOption}
use Rattle.std.proofs.Common.{◌⊎◌, subst, false, append_assoc, append-nil}
use Rattle.md_tree.proofs.Common.{list_all, option_map, Symbol, Item, Stage, Whole, Numeric}
use Rattle.md_tree.proofs.Common.{Hexadecimal, Setext, State, Fits, IsTail, IsGrouped, begun_by}
use Rattle.md_tree.proofs.Common.{next_stage, is_optional, items_of, advance, Role, Marker}
use Rattle.md_tree.proofs.Common.{pattern_of, Matches, is_whole, is_complete, start_of, EndsInGroup}
use Rattle.md_pattern.specs.declared.kinds.Symbol.TheVariants as symbol_variants
use symbol_variants.{ReferenceMarker, SetextText, SetextUnderline, LineEnding, ReferenceNumeric}
use symbol_variants.{ReferenceHexadecimal, ReferenceValue}
use Rattle.md_tree.proofs.Patterns.{left_after, and_left, and_right, fits_nothing, fits_back}
use Rattle.md_pattern.specs.Spine.{IsBegunGroup}
use Rattle.md_tree.proofs.Spots.{spot_after, Goes, Feeds, at_items, Goes-from_feeds, At}

-- what may follow at a stage
abbrev pub IsTailFrom : Stage → List Symbol → Type 0
IsTailFrom Whole tail = tail ≡ []
IsTailFrom Marker tail = IsTail ReferenceMarker tail
IsTailFrom Numeric tail =
    (tail ≡ ReferenceValue ∷ []) ⊎ (tail ≡ ReferenceHexadecimal ∷ ReferenceValue ∷ [])
IsTailFrom Hexadecimal tail = tail ≡ ReferenceValue ∷ []
IsTailFrom Setext tail = IsTail SetextText tail

IsTail-from : (first : Symbol) (tail : List Symbol) →
    IsTailFrom (begun_by first) tail → IsTail first tail
IsTail-from ReferenceMarker tail t = t
IsTail-from _ tail t = t

IsTailFrom-cons : (stage : Stage) (symbol : Symbol) (tail : List Symbol) →
    MatchOption (next_stage stage symbol) ⊥ (λ next. IsTailFrom next tail) →
    IsTailFrom stage (symbol ∷ tail)
IsTailFrom-cons Marker ReferenceNumeric tail t = grind arith
IsTailFrom-cons Marker ReferenceValue tail t = inl (ap (λ s. ReferenceValue ∷ s) t)
IsTailFrom-cons Numeric ReferenceHexadecimal tail t = inr (ap (λ s. ReferenceHexadecimal ∷ s) t)
IsTailFrom-cons Numeric ReferenceValue tail t = inl (ap (λ s. ReferenceValue ∷ s) t)
IsTailFrom-cons Hexadecimal ReferenceValue tail t = ap (λ s. ReferenceValue ∷ s) t
IsTailFrom-cons Setext LineEnding tail t = (suc t.0, ap (λ s. LineEnding ∷ s) t.1)
IsTailFrom-cons Setext SetextUnderline tail t = (0, ap (λ s. SetextUnderline ∷ s) t)
IsTailFrom-cons _ _ tail t = absurd t

-- the pattern takes a symbol, or the symbol continues a group
pub spot_whole : (items left : List Item) (next : Stage) (symbol : Symbol) →
    spot_after items Whole symbol ≡ Some (At left next) →
    (left_after items symbol ≡ Some left) × (begun_by symbol ≡ next)
spot_whole items left next symbol e = grind arith

pub spot_inside : (items left : List Item) (stage next : Stage) (symbol : Symbol) →
    option_map (λ st. At items st) (next_stage stage symbol) ≡ Some (At left next) →
    (items ≡ left) × (next_stage stage symbol ≡ Some next)
spot_inside items left stage next symbol e = grind arith

-- what has been read, from a stage on: the rest of a group, and groups that fit
pub record ReadsOn (items : List Item) (stage : Stage) (symbols : List Symbol) : Type 0 where
  pub tail : List Symbol
  pub others : List Symbol
  pub firsts : List Symbol
  pub parts : symbols ≡ tail ++ others
  pub tail_ok : IsTailFrom stage tail
  pub grouped : IsGrouped firsts others
  pub fits : Fits items firsts

on_whole : (items left : List Item) (next : Stage) (symbol : Symbol) (symbols : List Symbol) →
    spot_after items Whole symbol ≡ Some (At left next) → ReadsOn left next symbols →
    ReadsOn items Whole (symbol ∷ symbols)
on_whole items left next symbol symbols e on =
    let w = spot_whole items left next symbol e in
    record {
      tail = [];
      others = symbol ∷ symbols;
      firsts = symbol ∷ on.firsts;
      parts = refl;
      tail_ok = refl;
      grouped = (
        on.tail,
        on.others,
        ap (λ s. symbol ∷ s) on.parts,
        IsTail-from symbol on.tail (rw w.1 on.tail_ok),
        on.grouped,
      );
      fits = fits_back items left symbol on.firsts w.0 on.fits;
    }

on_inside :
    (items left : List Item) (stage next : Stage) (symbol : Symbol) (symbols : List Symbol) →
    option_map (λ st. At items st) (next_stage stage symbol) ≡ Some (At left next) →
    ReadsOn left next symbols → ReadsOn items stage (symbol ∷ symbols)
on_inside items left stage next symbol symbols e on =
    let w = spot_inside items left stage next symbol e in
    record {
      tail = symbol ∷ on.tail;
      others = on.others;
      firsts = on.firsts;
      parts = ap (λ s. symbol ∷ s) on.parts;
      tail_ok = IsTailFrom-cons stage symbol on.tail (rw w.1 on.tail_ok);
      grouped = on.grouped;
      fits = rw w.0 on.fits;
    }

goes_back : (items left : List Item) (stage : Stage) (symbols : List Symbol) →
    Goes items stage symbols (At left Whole) → list_all is_optional left ≡ true →
    ReadsOn items stage symbols
goes_back items left stage [] g out =
    let same = at_items g in
    record {
      tail = [];
      others = [];
      firsts = [];
      parts = refl;
      tail_ok = rw same.1;
      grouped = refl;
      fits = fits_nothing items (rw same.0 out);
    }
goes_back items left stage (symbol ∷ symbols) g out =
    grind (arith, on_whole, on_inside, goes_back g.0 left g.1 symbols g.3 out)

pub whole_stage : (stage : Stage) → is_whole stage ≡ true → stage ≡ Whole
whole_stage stage e = grind arith

-- a spine that is read to an end matches
pub matches_feeds : (role : Role) (spine : List Symbol) (end : State) →
    Feeds (start_of role) spine end → is_complete end ≡ true → Matches role spine
matches_feeds role spine end feeds complete =
    let whole = whole_stage end.stage (and_left _ _ complete) in
    let out = and_right _ _ complete in
    let goes = rw whole at (Goes-from_feeds (start_of role) spine end feeds) in
    let on = goes_back _ _ Whole spine goes out in (
      on.firsts,
      subst (λ s. IsGrouped on.firsts s)
          (sym (on.parts ∙ ap (λ t. t ++ on.others) on.tail_ok)) on.grouped,
      on.fits,
    )

-- Where a group is open, the spine that has been read ends in it.

-- what has been read of a group
abbrev pub IsHeld : Stage → List Symbol → Type 0
IsHeld Whole group = Unit {0}
IsHeld Marker group = group ≡ ReferenceMarker ∷ []
IsHeld Numeric group = group ≡ ReferenceMarker ∷ ReferenceNumeric ∷ []
IsHeld Hexadecimal group = group ≡ ReferenceMarker ∷ ReferenceNumeric ∷ ReferenceHexadecimal ∷ []
IsHeld Setext group = (n : ℕ) × (group ≡ SetextText ∷ replicate n LineEnding)

one_ending_more : (n : ℕ) → replicate n LineEnding ++ LineEnding ∷ [] ≡ replicate (suc n) LineEnding
one_ending_more zero = refl
one_ending_more (suc n) = ap (λ s. LineEnding ∷ s) (one_ending_more n)

held_on : (stage : Stage) (symbol : Symbol) (group : List Symbol) → IsHeld stage group →
    MatchOption (next_stage stage symbol) (Unit {0}) (λ next. IsHeld next (group ++ symbol ∷ []))
held_on Marker ReferenceNumeric group h = ap (λ g. g ++ ReferenceNumeric ∷ []) h
held_on Numeric ReferenceHexadecimal group h = ap (λ g. g ++ ReferenceHexadecimal ∷ []) h
held_on Hexadecimal ReferenceValue group h = tt
held_on Setext LineEnding group h = (
  suc h.0,
  ap (λ g. g ++ LineEnding ∷ []) h.1 ∙ ap (λ s. SetextText ∷ s) (one_ending_more h.0),
)
held_on _ _ group h = tt

-- what has been read so far ends in what is held
pub record EndsHeld (stage : Stage) (symbols : List Symbol) : Type 0 where
  pub before : List Symbol
  pub group : List Symbol
  pub parts : symbols ≡ before ++ group
  pub held : IsHeld stage group

held_step_inside :
    (items left : List Item) (stage next : Stage) (symbol : Symbol) (read : List Symbol) →
    option_map (λ st. At items st) (next_stage stage symbol) ≡ Some (At left next) →
    EndsHeld stage read → EndsHeld next (read ++ symbol ∷ [])
held_step_inside items left stage next symbol read e ends =
    record {
      before = ends.before;
      group = ends.group ++ symbol ∷ [];
      parts =
          ap (λ s. s ++ symbol ∷ []) ends.parts ∙ append_assoc ends.before ends.group _;
      held = rw (spot_inside items left stage next symbol e).1 at
          (held_on stage symbol ends.group ends.held);
    }

held_step : (stage : Stage) (items left : List Item) (next : Stage) (symbol : Symbol)
    (read : List Symbol) → spot_after items stage symbol ≡ Some (At left next) →
    EndsHeld stage read → EndsHeld next (read ++ symbol ∷ [])
held_step Whole items left next symbol read e ends = grind arith
held_step stage items left next symbol read e ends =
    held_step_inside items left stage next symbol read e ends

held_all : (items left : List Item) (stage last : Stage) (symbols read : List Symbol) →
    Goes items stage symbols (At left last) → EndsHeld stage read → EndsHeld last (read ++ symbols)
held_all items left stage last [] read g ends = grind (arith, append-nil, at_items)
held_all items left stage last (symbol ∷ symbols) read g ends =
    rw (append_assoc read (symbol ∷ []) symbols) at
    (held_all g.0 left g.1 last symbols _ g.3 (held_step stage items g.0 g.1 symbol read g.2 ends))

begun_held : (stage : Stage) (group : List Symbol) → is_whole stage ≡ false →
    IsHeld stage group → IsBegunGroup group
begun_held stage group e h = grind arith

-- where a group is open, the spine ends in it
pub EndsInGroup-feeds : (role : Role) (spine : List Symbol) (end : State) →
    Feeds (start_of role) spine end → is_whole end.stage ≡ false → EndsInGroup spine
EndsInGroup-feeds role spine end feeds open_group =
    let ends = held_all (pattern_of role) (items_of end) Whole end.stage spine []
    (Goes-from_feeds _ spine end feeds)
    (record { before = []; group = []; parts = refl; held = tt }) in
    (ends.before, ends.group, ends.parts, begun_held end.stage ends.group open_group ends.held)

-- A spine that has been read so far may end after some symbols, and is then read to its end.

-- a spine that has been read so far may end after these symbols
abbrev pub ends_after : State → List Symbol → Bool
ends_after state [] = is_complete state
ends_after state (one ∷ symbols) =
    elim (advance state one) [ None ↦ false | Some next ↦ ends_after next symbols ]

-- and is then read to its end
abbrev pub IsFed : State → List Symbol → Type 0
IsFed state symbols = (end : State) × Feeds state symbols end × (is_complete end ≡ true)

fed_on : (state : State) (one : Symbol) (symbols : List Symbol) (o : Option State) →
    advance state one ≡ o → ((next : State) → ends_after next symbols ≡ true → IsFed next symbols) →
    (elim o [ None ↦ false | Some next ↦ ends_after next symbols ]) ≡ true →
    IsFed state (one ∷ symbols)
fed_on state one symbols o is rest e = grind arith

pub fed : (state : State) (symbols : List Symbol) →
    ends_after state symbols ≡ true → IsFed state symbols
fed state [] e = (state, refl, e)
fed state (one ∷ symbols) e =
    fed_on state one symbols _ refl (λ next ends. fed next symbols ends) e

pub matches_after : (inner : Role) (symbols : List Symbol) →
    ends_after (start_of inner) symbols ≡ true → Matches inner symbols
matches_after inner symbols e = grind (arith, fed, matches_feeds)
