-- The definitions and footnotes of the meaning are those of the document, in the order of their
-- exits: the targets of references.
use Rattle.std.proofs.Common.{arith, ◌≡◌, ℕ, Bool, List, [], ◌∷◌, ◌++◌, refl, append_assoc}
use Rattle.std.specs.Prelude.{map, if◌then◌else◌, ◌&&◌}
use Rattle.std.proofs.lemmas.List.{map-append}
use Rattle.md_base.specs.Tree.{Forest, Empty, Node}
use Rattle.md_base.specs.Children.{is_empty}
use Rattle.md_pattern.specs.Looseness.{is_loose}
use Rattle.md_base.specs.Is.{is}
use Rattle.md_base.specs.declared.event.Name.TheVariants.{Definition, GfmFootnoteDefinition}
use Rattle.md_tree.specs.Rules.{place}
use Rattle.md_meaning.specs.declared.surroundings.Surroundings.{Surroundings}
use Rattle.md_meaning.specs.Meaning.Inherited.{inside}
use Rattle.md_meaning.specs.Meaning.Layout.{layout, when}
use Rattle.md_meaning.specs.Meaning.At.{Context, Defined, Footnote, At, Before, target_in}
use Rattle.md_meaning.specs.Meaning.At.{identifier_of}
use Rattle.md_meaning.specs.Meaning.Before.{before_children}
use Rattle.md_meaning.specs.Meaning.Nodes.{Outcome, outcome, node, before_next}
use Rattle.md_content.specs.References.{defined_in, footnotes_defined_in}
use Rattle.md_base.specs.declared.event.Point.{Point}

-- a node with what is before, in and around it
abbrev pub node_at : Surroundings → Before → Forest → Point → Point → Bool → Outcome → At
node_at around before children start end last inner = record {
  around = around;
  before = before;
  children = children;
  found = inner.found;
  calls = before.calls ++ inner.calls;
  place = place start end;
  is_last = last;
}

-- the identifiers of three parts in a row, by those of each
in_a_row : {A : Type 0} (of : A → List ℕ) (inner own later : List A) (xs ys zs : List (List ℕ)) →
    map of inner ≡ xs → map of own ≡ ys → map of later ≡ zs →
    map of ((inner ++ own) ++ later) ≡ xs ++ (ys ++ zs)
in_a_row of inner own later xs ys zs a b c = grind (arith, map-append, append_assoc)

-- the one of a node, if it is one
own-one : {A : Type 0} (of : A → List ℕ) (test : Bool) (own : A) →
    map of (if test then own ∷ [] else []) ≡ (if test then of own ∷ [] else [])
own-one of test own = grind arith

pub listed :
    (context : Context) (around : Surroundings) (before : Before) (forest : Forest) →
    (map (λ defined. defined.identifier) (outcome context around before forest).definitions
    ≡ defined_in context.bytes forest)
    × (map (λ footnote. footnote.identifier) (outcome context around before forest).footnotes
    ≡ footnotes_defined_in context.bytes forest)
listed context around before Empty = (refl, refl)
listed context around before (Node name start end children rest) =
    let nested : Surroundings = inside context.options (is_loose children) name around in
    let within : Before = before_children name children before in
    let inner : Outcome = outcome context nested within children in
    let at : At =
    node_at around before children start end (around.is_outermost && is_empty rest) inner in
    let next : Before = before_next at name (node context at name inner) in
    let later : Outcome = outcome context around next rest in
    let identifier = identifier_of context.bytes children in
    let own : Defined = record { identifier = identifier; target = target_in at.found } in
    let note : Footnote =
    record { identifier = identifier; text = layout context.ending inner.pieces } in
    let in_it = listed context nested within children in
    let after_it = listed context around next rest in (
      in_a_row (λ (d : Defined). d.identifier) inner.definitions
          (when (is Definition name) (own ∷ [])) later.definitions _ _ _ in_it.0
          (own-one (λ (d : Defined). d.identifier) (is Definition name) own) after_it.0,
      in_a_row (λ (f : Footnote). f.identifier) inner.footnotes
          (when (is GfmFootnoteDefinition name) (note ∷ [])) later.footnotes _ _ _ in_it.1
          (own-one (λ (f : Footnote). f.identifier) (is GfmFootnoteDefinition name) note)
          after_it.1,
    )

pub definitions-listed :
    (context : Context) (around : Surroundings) (before : Before) (forest : Forest) →
    map (λ defined. defined.identifier) (outcome context around before forest).definitions
    ≡ defined_in context.bytes forest
definitions-listed context around before forest = (listed context around before forest).0
