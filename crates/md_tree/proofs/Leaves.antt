-- A node without children, which is entered and exited at once.
use Rattle.std.proofs.Common.{arith, ◌≡◌, ◌⊎◌, inl, inr, true, false, ℕ, suc, Option, Some, None}
use Rattle.std.proofs.Common.{List, refl, ap, ◌∙◌, length, ◌<◌, ◌+◌, take, get_or, sym, add-one}
use Rattle.md_tree.proofs.Common.{Point, Name, is_table, Rule, CompileError, Symbol, Role, Reading}
use Rattle.md_tree.proofs.Common.{Free, Through, Space, Solid, standing_of, role_for, Referral}
use Rattle.md_tree.proofs.Common.{Missing, State, place, target_at, broken_rule, start_of, may_hold}
use Rattle.md_tree.proofs.Common.{advance, is_complete, Reads, Outer, Entry, Course, entered}
use Rattle.md_tree.proofs.Common.{after_entry, after_through, after_exit, Enters, ExitsWhere}
use Rattle.md_tree.proofs.Common.{Passes, Unbroken, IsStopAtLeaf, IsStopInside, slice_get}
use Rattle.md_tree.proofs.Common.{slice_get_within, get_or_from_slice_get, Event, Kind, Enter, Exit}
use Rattle.md_tree.proofs.Common.{first_index, ending_after, PassState, pass_beginning, passed}
use Rattle.md_tree.proofs.Common.{passed_over, first_index-more, passed_more, Handed, IsRefusal}
use Rattle.md_tree.proofs.Common.{Runs, StepsBy, beginning, point_at, IsStop}
use Rattle.md_tree.specs.declared.rule.Rule.TheVariants as rule
use Rattle.md_tree.specs.declared.rule.CompileError.TheVariants as error
use Rattle.md_pattern.specs.declared.kinds.Role.TheVariants as role
use Rattle.md_tree.proofs.Stopped.{IsStop-inside, StopsInside-broken, IsRefusal-stopped}
use Rattle.md_pattern.specs.Facts.{passed_entry, passed_exit}
use Rattle.md_tree.specs.Reader.{IsLeaf}
use Rattle.md_tree.proofs.Checking.{Runs-more}

-- the course inside such a node, without the node among the open ones
abbrev pub inside : Entry → Course → Course
inside entry from = record {
  state = entry.state;
  target = entry.target;
  open_nodes = from.open_nodes;
  count = suc from.count;
  mentions = from.mentions;
}

-- where the children of a node begin, by how its name stands
module _ (name : Name) (state : State) (target : Referral)
    (holds : may_hold state.role ≡ true) where
  pub entered-through : standing_of name ≡ Through → entered (standing_of name) state target
      ≡ Some (record { state = state; target = target; outer = None })
  entered-through stands = rw (stands, holds) refl

  pub entered-space : standing_of name ≡ Space →
      entered (standing_of name) state target ≡ Some (record {
        state = start_of role.Childless;
        target = Missing;
        outer =
            Some (record { state = state; before = state.before; target = target; reading = Free });
      })
  entered-space stands = rw (stands, holds) refl

  pub entered-solid : (symbol : Symbol) (usual : Role) (reading : Reading) (next : State) →
      standing_of name ≡ Solid symbol usual reading → advance state symbol ≡ Some next →
      entered (standing_of name) state target ≡ Some (record {
        state = start_of (role_for state.role state.before usual);
        target = Missing;
        outer = Some
            (record { state = next; before = state.before; target = target; reading = reading });
      })
  entered-solid symbol usual reading next stands moves = rw (stands, holds, moves) refl

module _ (name : Name) (start end : Point) (from : Course) (entry : Entry)
    (stands : entered (standing_of name) from.state from.target ≡ Some entry) where
  enters : Enters name start from (after_entry entry name start from)
  enters = grind arith

  pub Passes-through : (holds : Reads) (to : Course) → entry.outer ≡ None →
      to ≡ after_through from.open_nodes (inside entry from) → Passes holds name start end from to
  Passes-through holds to through same = grind (arith, enters)

  pub Passes-exit : (holds : Reads) (outer : Outer) (to : Course) → entry.outer ≡ Some outer →
      ExitsWhere holds (Some outer) start end from.open_nodes (inside entry from) to →
      Passes holds name start end from to
  Passes-exit holds outer to outer_is exits = grind (arith, enters)

  pub IsStopAtLeaf-exit : (bytes : List ℕ) (names : List (List ℕ × List ℕ)) (index : ℕ)
      (refusal : CompileError) (outer : Outer) → entry.outer ≡ Some outer →
      IsStopInside bytes names (suc index) outer (place start end) (inside entry from) refusal →
      IsStopAtLeaf bytes names index name start end from refusal
  IsStopAtLeaf-exit bytes names index refusal outer outer_is stops =
      inr (
        after_entry entry name start from,
        enters,
        IsStop-inside bytes names (suc index) refusal from.open_nodes from.open_nodes
            (record { name = name; start = start; outer = entry.outer }) outer name end
            _ refl refl outer_is stops,
      )

-- a node without children that stands on no spine
pub passes-over : (bytes : List ℕ) (names : List (List ℕ × List ℕ)) (name : Name)
    (start end : Point) (from : Course) →
    may_hold from.state.role ≡ true → (standing_of name ≡ Through) ⊎ (standing_of name ≡ Space) →
    Passes (Unbroken bytes names) name start end from (record from { count = suc (suc from.count) })
passes-over bytes names name start end from holds (inl through) =
    Passes-through name start end from _ (entered-through name from.state from.target holds through)
    (Unbroken bytes names) _ refl refl
passes-over bytes names name start end from holds (inr space) =
    Passes-exit name start end from _ (entered-space name from.state from.target holds space)
    (Unbroken bytes names) _ _ refl (refl, refl, refl)

-- a node without children that stands on the spine
module _ (name : Name) {symbol : Symbol} {usual : Role} {reading : Reading}
    {next : State} (start end : Point) (from : Course) (holds : may_hold from.state.role ≡ true)
    (stands : standing_of name ≡ Solid symbol usual reading)
    (moves : advance from.state symbol ≡ Some next) where
  abbrev outer : Outer
  outer =
      record { state = next; before = from.state.before; target = from.target; reading = reading }

  abbrev inner : State
  inner = start_of (role_for from.state.role from.state.before usual)

  abbrev begins : Entry
  begins = record { state = inner; target = Missing; outer = Some outer }

  abbrev after : Course
  after = record from {
    state = next;
    target = target_at reading from.target Missing (place start end);
    count = suc (suc from.count);
  }

  exits-so : after ≡ after_exit outer start end from.open_nodes (inside begins from)
  exits-so = grind arith

  module _ (bytes : List ℕ) (names : List (List ℕ × List ℕ)) where
    pub Passes-solid : (target : Referral) → is_complete inner ≡ true →
        broken_rule bytes names reading next.role from.state.before start end Missing ≡ None →
        target ≡ target_at reading from.target Missing (place start end) →
        Passes (Unbroken bytes names) name start end from
        (record from { state = next; target = target; count = suc (suc from.count) })
    Passes-solid target complete sound target_is =
        Passes-exit name start end from begins
        (entered-solid name from.state from.target holds symbol usual reading next stands moves)
        _ outer _ refl (complete, sound, ap (λ t. record after { target = t }) target_is ∙ exits-so)

    stops-so : (index : ℕ) (refusal : CompileError) →
        IsStopInside bytes names (suc index) outer (place start end) (inside begins from) refusal →
        IsStopAtLeaf bytes names index name start end from refusal
    stops-so index refusal =
        IsStopAtLeaf-exit name start end from begins
        (entered-solid name from.state from.target holds symbol usual reading next stands moves)
        bytes names index refusal outer refl

    pub IsStopAtLeaf-open : (index : ℕ) → is_complete inner ≡ false →
        IsStopAtLeaf bytes names index name start end from (error.Event (suc index) rule.Order)
    IsStopAtLeaf-open index unfinished =
        stops-so index (error.Event _ rule.Order) (refl, unfinished)

    pub IsStopAtLeaf-broken : (index : ℕ) (broken : Rule) → is_complete inner ≡ true → broken_rule
        bytes names reading next.role from.state.before start end Missing ≡ Some broken →
        IsStopAtLeaf bytes names index name start end from (error.Event (suc index) broken)
    IsStopAtLeaf-broken index broken complete breaks =
        stops-so index (error.Event _ broken) (
          refl,
          StopsInside-broken bytes names broken outer start end _ complete breaks,
        )

-- ---- a table has children

pub no-table-over : (name : Name) → (standing_of name ≡ Through) ⊎ (standing_of name ≡ Space) →
    is_table name ≡ false
no-table-over name stands = grind arith

pub no-table-solid : (name : Name) (symbol : Symbol) (usual : Role) (reading : Reading)
    (around : Role) (before : Option Symbol) → standing_of name ≡ Solid symbol usual reading →
    is_complete (start_of (role_for around before usual)) ≡ true → is_table name ≡ false
no-table-solid name symbol usual reading around before stands complete = grind arith

-- The two events of a node without children, read at once.

-- an event that enters is no line ending's exit
ending-entry : (found : Option ℕ) (index : ℕ) (event : Event) → event.kind ≡ Enter →
    ending_after found index event ≡ found
ending-entry found index event enters = grind arith

module _ (given : Handed) (index : ℕ) (entry exit : Event) (leaf : IsLeaf entry exit)
    (here : slice_get given.events index ≡ Some entry)
    (after : slice_get given.events (suc index) ≡ Some exit) where
  entry_inside : index < length given.events
  entry_inside = slice_get_within given.events index entry here

  exit_inside : suc index < length given.events
  exit_inside = slice_get_within given.events (suc index) exit after

  entry_is : get_or given.events index entry ≡ entry
  entry_is = get_or_from_slice_get given.events index entry entry here

  exit_is : get_or given.events (suc index) exit ≡ exit
  exit_is = get_or_from_slice_get given.events _ exit exit after

  -- a claim of the entry, by its parts
  of_entry : (P : Kind → Name → Point → Type 0) → P Enter entry.name (point_at given.events index) →
      P (Event.kind (get_or given.events index entry))
      (Event.name (get_or given.events index entry)) (Event.point (get_or given.events index entry))
  of_entry P p =
      rw (entry_is, IsLeaf.enters leaf) (rw here at p)

  of_exit : (P : Kind → Name → Point → Type 0) →
      P Exit entry.name (point_at given.events (suc index)) →
      P (Event.kind (get_or given.events (suc index) exit))
      (Event.name (get_or given.events (suc index) exit))
      (Event.point (get_or given.events (suc index) exit))
  of_exit P p = grind (arith, exit_is)

  module _ (from : Course) (runs : Runs (Unbroken given.bytes given.names) (take index given.events)
      beginning from) where
    runs_entered : (between : Course) →
        Enters entry.name (point_at given.events index) from between →
        Runs (Unbroken given.bytes given.names) (take (suc index) given.events) beginning between
    runs_entered between enters =
        Runs-more (Unbroken given.bytes given.names) given.events index entry from between
        entry_inside runs (of_entry (λ kind name point.
        StepsBy (Unbroken given.bytes given.names) kind name point from between) enters)

    pub Runs-leaf : (to : Course) → Passes (Unbroken given.bytes given.names) entry.name
        (point_at given.events index) (point_at given.events (suc index)) from to →
        Runs (Unbroken given.bytes given.names) (take (suc (suc index)) given.events) beginning to
    Runs-leaf to passes =
        Runs-more (Unbroken given.bytes given.names) given.events (suc index) exit passes.0 to
        exit_inside (runs_entered passes.0 passes.1)
        (of_exit (λ kind name point. StepsBy (Unbroken given.bytes given.names) kind name point
        passes.0 to) passes.2)

    pub IsRefusal-leaf : (stopped : CompileError) → IsStopAtLeaf given.bytes given.names index
        entry.name (point_at given.events index) (point_at given.events (suc index)) from stopped →
        IsRefusal given stopped
    IsRefusal-leaf stopped (inl stops) =
        IsRefusal-stopped given index entry from entry_inside
        runs stopped (of_entry (λ kind name point. IsStop given.bytes given.names index kind name
        point from stopped) stops)
    IsRefusal-leaf stopped (inr stops) =
        IsRefusal-stopped given (suc index) exit stops.0 exit_inside
        (runs_entered stops.0 stops.1) stopped (of_exit (λ kind name point. IsStop given.bytes
        given.names (suc index) kind name point stops.0 stopped) stops.2)

  pub passed-leaf_more : (pass next : PassState) →
      pass ≡ passed_over (take index given.events) pass_beginning →
      next ≡ passed_exit entry.name (passed_entry entry.name pass) →
      next ≡ passed_over (take (suc (suc index)) given.events) pass_beginning
  passed-leaf_more pass next so_far step =
      let entered :
      passed_entry entry.name pass ≡ passed_over (take (index + 1) given.events) pass_beginning =
      passed_more given.events index entry pass pass_beginning (passed_entry entry.name pass)
      entry_inside so_far
      (of_entry (λ kind name point. passed_entry entry.name pass ≡ passed kind name pass) refl) in
      let entered_suc :
      passed_entry entry.name pass ≡ passed_over (take (suc index) given.events) pass_beginning =
      entered ∙ ap (λ n. passed_over (take n given.events) pass_beginning) (add-one index) in
      passed_more given.events _ exit _ pass_beginning next exit_inside entered_suc
      (step ∙ of_exit (λ kind name point. passed_exit entry.name (passed_entry entry.name pass)
      ≡ passed kind name (passed_entry entry.name pass)) refl)
      ∙ ap (λ n. passed_over (take n given.events) pass_beginning) (add-one _)

  pub first_index-leaf : (found : Option ℕ) → found ≡ first_index (take index given.events) →
      ending_after found (suc index) exit ≡ first_index (take (suc (suc index)) given.events)
  first_index-leaf found so_far =
      let entered : ending_after found index (get_or given.events index entry)
      ≡ first_index (take (index + 1) given.events) = first_index-more given.events index entry
      found entry_inside so_far in
      let kept : found ≡ first_index (take (suc index) given.events) = sym
      (ap (ending_after found index) entry_is ∙ ending-entry found index entry (IsLeaf.enters leaf))
      ∙ entered ∙ ap (λ n. first_index (take n given.events)) (add-one index) in
      sym (ap (ending_after found _) exit_is) ∙ first_index-more given.events (suc index) exit found
      exit_inside kept ∙ ap (λ n. first_index (take n given.events)) (add-one _)
