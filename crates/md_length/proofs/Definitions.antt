-- The target of a definition takes no more than its nodes may print, and that no more than what is
-- read in the definition and its events.
use Rattle.std.proofs.Common.{◌≡◌, ℕ, suc, ◌*◌, ◌≤◌, Bool, true, ◌&&◌, List, [], ◌∷◌, ◌++◌, length}
use Rattle.std.proofs.Common.{map, drop, refl, ap, ◌∙◌, arith, bytes_eq, append_assoc, append-nil}
use Rattle.std.specs.Prelude.{if◌then◌else◌, find}
use Rattle.std.specs.Option.{option_map_or}
use Rattle.md_base.specs.declared.event.Event.{Event}
use Rattle.md_base.specs.declared.event.Name.{Name}
use Rattle.md_base.specs.declared.event.Name.TheVariants as name_variants
use name_variants.{Definition}
use Rattle.md_base.specs.Is.{is}
use Rattle.md_base.specs.Children.{is_empty}
use Rattle.md_base.specs.NameTests.{is_link_definition}
use Rattle.md_base.specs.Tree.{Forest, Empty, Node, flatten, exiting}
use Rattle.md_meaning.specs.declared.surroundings.Surroundings.{Surroundings}
use Rattle.md_meaning.specs.Meaning.At.{Context, Before, Defined, target_in, identifier_of}
use Rattle.md_meaning.specs.Meaning.At.{nothing_found}
use Rattle.md_meaning.specs.Meaning.Before.{before_children}
use Rattle.md_meaning.specs.Meaning.Layout.{when}
use Rattle.md_meaning.specs.Meaning.Nodes.{outcome}
use Rattle.md_pattern.specs.Partners.{index_after, definition_entries}
use Rattle.md_content.specs.References.{first_of}
use Rattle.md_steps.specs.Claim.{inner_of, next_before}
use Rattle.md_steps.specs.Content.{Content, Sources, Fits, content_inside, content_after_node}
use Rattle.md_steps.proofs.AlikeStrings.{plain}
use Rattle.md_steps.proofs.Quiet.{past-callless}
use Rattle.md_steps.proofs.Standing.{allowed-facts, is_callless}
use Rattle.md_steps.proofs.Staying.{node-same}
use Rattle.md_length.specs.Costs.{cost}
use Rattle.md_length.specs.Reuse.{length_at, definition_length}
use Rattle.md_length.specs.Work.{before_definition}
use Rattle.md_length.specs.Uses.{weight}
use Rattle.md_length.proofs.DefinitionEvents.{before-low, inside_node, behind_node}
use Rattle.md_length.proofs.Kept.{kept, both-kept, target-kept}
use Rattle.md_length.proofs.Pieces.{layout-short}
use Rattle.md_length.proofs.Strings.{around_in, strings-short}
use Rattle.md_length.proofs.Units.{half_unit, inner_length, cost-short}

-- ---- the content of a definition
sources-short : (context : Context) (around : Surroundings) (before : Before) (content : Content)
    (forest : Forest) →
    length context.ending ≤ 2 → is_callless content ≡ true → Fits content forest →
    kept (outcome context around before forest).found ≤ cost context.names forest
sources-short context around before content Empty few low fits = omega arith
sources-short context around before content (Node name start end children rest) few low fits =
    let is = plain content name low fits.0 in
    let later = node-same is_callless past-callless content name children ∙ low in
    let inside = ((allowed-facts content name fits.0).callless low).0 in
    grind (
      arith,
      is,
      both-kept,
      layout-short context.ending,
      λ (around : Surroundings) (before : Before).
          strings-short context around before (content_inside content name) children inside fits.1,
      λ (around : Surroundings) (before : Before).
          sources-short context around before (content_inside content name) children few inside
          fits.1,
      λ (around : Surroundings) (before : Before).
          sources-short context around before (content_after_node content name children) rest few
          later fits.2,
    )

-- ---- the definitions, in the order of their exits
-- each takes at most so many times the length of its events
pub data AreBelow (times : ℕ) (events : List Event) : List Defined → List ℕ → Type 0 where
  none : AreBelow times events [] []
  more : {defined : Defined} {definitions : List Defined} {entry : ℕ} {entries : List ℕ} →
      weight defined.target ≤ times * definition_length events entry →
      AreBelow times events definitions entries →
      AreBelow times events (defined ∷ definitions) (entry ∷ entries)

below-append : {times : ℕ} {events : List Event} {xs ys : List Defined} {ms ns : List ℕ} →
    AreBelow times events xs ms → AreBelow times events ys ns →
    AreBelow times events (xs ++ ys) (ms ++ ns)
below-append none others = others
below-append (more here later) others = more here (below-append later others)

pub definitions-below : (context : Context) (around : Surroundings) (before : Before)
    (content : Content) (forest : Forest) (events : List Event) (index : ℕ) (tail : List Event) →
    length context.ending ≤ 2 → Fits content forest → drop index events ≡ flatten forest ++ tail →
    AreBelow (half_unit context.names) events (outcome context around before forest).definitions
    (definition_entries index forest)
definitions-below context around before content Empty events index tail few fits split = none
definitions-below context around before content (Node name start end children rest) events index
    tail few fits split =
    let last : Bool = around.is_outermost && is_empty rest in
    let next : Before = next_before context around before last name start end children in
    let inside = inside_node events index name start end children rest tail split in
    rw (← append_assoc (definition_entries (suc index) children)) (below-append (below-append
    (definitions-below context (around_in context around name children)
    (before_children name children before) (content_inside content name) children events (suc index)
    (exiting name end ∷ (flatten rest ++ tail)) few fits.1 inside) (own-below name fits.1 inside))
    (definitions-below context around next (content_after_node content name children) rest events
    (suc (index_after (suc index) children)) tail few fits.2
    (behind_node events index name start end children rest tail split)))
  where
    own-below : (name : Name) → Fits (content_inside content name) children →
        drop (suc index) events ≡ flatten children ++ exiting name end ∷ (flatten rest ++ tail) →
        AreBelow (half_unit context.names) events (when (is Definition name) (record {
          identifier = identifier_of context.bytes children;
          target = target_in (inner_of context around before name children).found;
        } ∷ [])) (if is_link_definition name then index ∷ [] else [])
    own-below Definition fits there =
        more (omega (
          arith,
          target-kept (inner_of context around before Definition children).found,
          sources-short context (around_in context around Definition children)
              (before_children Definition children before) Sources children few refl fits,
          cost-short context.names children,
          ap (λ es. half_unit context.names * inner_length es) (ap before_definition there
              ∙ before-low Sources children (exiting Definition end ∷ (flatten rest ++ tail)) refl
              fits ∙ append-nil (flatten children)),
        )) none
    own-below _ fits there = none

-- the target of the first definition that has an identifier
pub first-below : {times : ℕ} {events : List Event} {definitions : List Defined}
    {entries : List ℕ} (identifier : List ℕ) → AreBelow times events definitions entries →
    weight (option_map_or (λ (defined : Defined). defined.target)
    (find (λ defined. bytes_eq defined.identifier identifier) definitions)
    (target_in nothing_found))
    ≤ times * length_at (map (definition_length events) entries)
    (first_of (map (λ (defined : Defined). defined.identifier) definitions) identifier)
first-below identifier none = omega arith
first-below identifier (more here later) = grind (arith, here, first-below identifier later)
