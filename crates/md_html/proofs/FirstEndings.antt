-- The first line ending of a document is the one that exits first in its events.
use Rattle.std.proofs.Common.{◌≡◌, ◌⊎◌, inl, inr, ℕ, Bool, true, false, List, [], ◌∷◌, ◌++◌, arith}
use Rattle.std.proofs.Common.{Option, Some, None, refl, append_assoc, append-nil}
use Rattle.std.proofs.Common.{slice_get}
use Rattle.std.specs.Prelude.{if◌then◌else◌}
use Rattle.md_base.specs.declared.event.Name.{Name}
use Rattle.md_base.specs.declared.event.Point.{Point}
use Rattle.md_base.specs.declared.event.Position.{Position}
use Rattle.md_base.specs.declared.event.Event.{Event}
use Rattle.md_base.specs.Tree.{Forest, Empty, Node, flatten, entering, exiting}
use Rattle.md_base.specs.Children.{or_else}
use Rattle.md_base.specs.NameTests.{is_line_ending}
use Rattle.md_tree.specs.Texts.{positions_of, is_text_name, ExitsText}
use Rattle.md_meaning.specs.Meaning.Finds.{first_ending}
use Rattle.md_pattern.specs.Ending.{exits_line_ending, first_index}

-- the event at an index is the first one that exits a line ending, whose place this is
pub record IsFirst (events : List Event) (positions : List (Option Position))
    (found : Option Position) (index : ℕ) : Type 0 where
  pub position : Position
  pub first : first_index events ≡ Some index
  pub there : slice_get positions index ≡ Some (Some position)
  pub is : found ≡ Some position
  pub exits : ExitsText events index

-- there is none, or it is at an index
abbrev Outcome : List Event → List (Option Position) → Option Position → Type 0
Outcome events positions found =
    ((first_index events ≡ None) × (found ≡ None))
    ⊎ ((index : ℕ) × IsFirst events positions found index)

shift : (event : Event) (position : Option Position) (events : List Event)
    (positions : List (Option Position))
    (found : Option Position) → exits_line_ending event ≡ false → Outcome events positions found →
    Outcome (event ∷ events) (position ∷ positions) found
shift event position events positions found e later = grind arith

ending_text : (name : Name) → is_line_ending name ≡ true → is_text_name name ≡ true
ending_text name h = grind arith

exit_step : (name : Name) (end : Point) (place : Position) (events : List Event)
    (positions : List (Option Position))
    (found : Option Position) → Outcome events positions found →
    Outcome (exiting name end ∷ events) (Some place ∷ positions)
    (or_else (if is_line_ending name then Some place else None) found)
exit_step name end place events positions found later = by (is_line_ending name) refl
  where
    by : (ends : Bool) → is_line_ending name ≡ ends →
        Outcome (exiting name end ∷ events) (Some place
        ∷ positions) (or_else (if ends then Some place else None) found)
    by true e = inr (
      0,
      record {
        position = place;
        first = grind arith;
        there = refl;
        is = refl;
        exits = (name, (exiting name end, refl, refl, refl), ending_text name e);
      },
    )
    by false e = shift (exiting name end) (Some place) events positions found e later

or_else_assoc : (a b c : Option Position) → or_else a (or_else b c) ≡ or_else (or_else a b) c
or_else_assoc None b c = refl
or_else_assoc (Some a) b c = refl

outcome : (forest : Forest) (tail : List Event) (more : List (Option Position))
    (found : Option Position) →
    Outcome tail more found →
    Outcome (flatten forest ++ tail) (positions_of forest ++ more)
    (or_else (first_ending forest) found)
outcome Empty tail more found later = later
outcome (Node name start end children rest) tail more found later =
    let place : Position = record { start = start; end = end } in
    let own : Option Position = if is_line_ending name then Some place else None in
    let beyond : List Event = flatten rest ++ tail in
    let places : List (Option Position) = positions_of rest ++ more in
    let last : Option Position = or_else (first_ending rest) found in
    rw (
      append_assoc (flatten children) (exiting name end ∷ flatten rest) tail,
      append_assoc (positions_of children) (Some place ∷ positions_of rest) more,
      ← or_else_assoc (first_ending children) (or_else own (first_ending rest)) found,
      ← or_else_assoc own (first_ending rest) found,
    ) (shift (entering name start) None (flatten children ++ exiting name end ∷ beyond)
    (positions_of children ++ Some place ∷ places) (or_else (first_ending children)
    (or_else own last)) refl (outcome children (exiting name end ∷ beyond) (Some place ∷ places)
    (or_else own last) (exit_step name end place beyond places last
    (outcome rest tail more found later))))

or_else_none : (o : Option Position) → or_else o None ≡ o
or_else_none None = refl
or_else_none (Some o) = refl

module _ (document : Forest) (events : List Event) (flat : flatten document ≡ events) where
  of_document : Outcome events (positions_of document) (first_ending document)
  of_document =
      rw (
        append-nil (flatten document),
        append-nil (positions_of document),
        or_else_none (first_ending document),
        flat,
      ) at
      (outcome document [] [] None (inl (refl, refl)))

  pub ending-none : first_index events ≡ None → first_ending document ≡ None
  ending-none none = grind (arith, of_document)

  pub ending-some : (index : ℕ) → first_index events ≡ Some index →
      IsFirst events (positions_of document) (first_ending document) index
  ending-some index found = grind (arith, of_document)
