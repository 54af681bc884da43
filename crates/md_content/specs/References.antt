-- The labels by which nodes of a document refer to one another, and conditions that what the
-- meaning reads of a document exists.
use Rattle.std.specs.Prelude.{◌≡◌, ℕ, ◌⊎◌, ◌-◌, List, [], ◌∷◌, ◌++◌, Option, Some, None, is_some}
use Rattle.std.specs.Prelude.{IsTrue, Contains, length, slice_get, suc, if◌then◌else◌, bytes_eq}
use Rattle.std.specs.Prelude.{option_map, option_and_then}
use Rattle.md_base.specs.declared.event.Name.{Name}
use Rattle.md_base.specs.declared.event.Name.TheVariants as name_variants
use name_variants.{Link, Image, Definition, GfmFootnoteCall, GfmFootnoteDefinition}
use name_variants.{CharacterReferenceValue}
use Rattle.md_base.specs.declared.event.Point.{Point}
use Rattle.md_base.specs.declared.event.Position.{Position}
use Rattle.md_base.specs.Place.{text_between, label_between, serialized_between}
use Rattle.md_base.specs.Reference.{decoded}
use Rattle.std.specs.Option.{option_map_or}
use Rattle.md_meaning.specs.Texts.{text_of}
use Rattle.md_meaning.specs.Surroundings.{spine_inside, spine_after_node}
use Rattle.md_meaning.specs.Meaning.Spans.{marker}
use Rattle.md_tree.specs.declared.mention.Referral.{Referral}
use Rattle.md_tree.specs.declared.mention.Referral.TheVariants.{Missing, Label, Resource}
use Rattle.md_base.specs.Is.{is}
use Rattle.md_base.specs.Tree.{Forest, Empty, Node}
use Rattle.md_tree.specs.Rules.{target_of}
use Rattle.md_tree.specs.declared.mention.Mention.TheVariants.{Reference, Call}
use Rattle.md_tree.specs.Mentions.{mentions_of}
use Rattle.md_tree.specs.Numbers.{definition_for, footnote_for}
use Rattle.md_tree.specs.Texts.{is_text_name, is_identifier_name}
use Rattle.md_meaning.specs.Meaning.Layout.{when}
use Rattle.md_meaning.specs.Meaning.At.{identifier_of}
use Rattle.md_content.specs.Labels.{label_in_node, referring_in, defined_label, footnote_label}

-- a claim holds for each node, at any depth
abbrev pub Everywhere : (Name → Point → Point → Forest → Type 0) → Forest → Type 0
Everywhere holds Empty = Unit {0}
Everywhere holds (Node name start end children rest) =
    holds name start end children × Everywhere holds children × Everywhere holds rest

-- a node whose text is read has one, also with the spaces of tabs that are cut at its ends
abbrev pub HasItsText : List ℕ → Name → Point → Point → Forest → Type 0
HasItsText bytes name start end children =
    IsTrue (is_text_name name) → IsTrue (is_some (text_between bytes start end))
    × IsTrue (is_some (serialized_between bytes start end))

-- a claim holds for each node, at any depth, after the names on its spine
abbrev pub EverywhereAfter : (List Name → Name → Point → Point → Forest → Type 0) → List Name →
    Forest → Type 0
EverywhereAfter holds spine Empty = Unit {0}
EverywhereAfter holds spine (Node name start end children rest) =
    holds spine name start end children
    × EverywhereAfter holds (spine_inside name spine) children
    × EverywhereAfter holds (spine_after_node name children spine) rest

-- a reference's value decodes to a text, by the mark before it
abbrev pub Decodes : List ℕ → List (List ℕ × List ℕ) → List Name → Name → Point → Point →
    Forest → Type 0
Decodes bytes names spine CharacterReferenceValue start end children =
    IsTrue (is_some (decoded names (option_map_or marker (slice_get spine (length spine - 1)) 38)
    (text_of bytes start end)))
Decodes bytes names spine _ start end children = Unit {0}

-- a node that has an identifier has a text between its indices
abbrev pub HasItsLabel : List ℕ → Name → Point → Point → Forest → Type 0
HasItsLabel bytes name start end children = IsTrue (is_identifier_name name) →
    IsTrue (is_some (label_between bytes start end))

-- the target with this label, if there is one
abbrev pub label_target : Option Position → Referral
label_target None = Missing
label_target (Some place) = Label place

-- to the grammar the target of a node with these children is its resource, or this label
abbrev pub HasResource : Forest → Type 0
HasResource children = target_of children Missing ≡ Resource

abbrev pub IsLabelled : Option Position → Forest → Type 0
IsLabelled label children = target_of children Missing ≡ label_target label

-- a link or an image refers by its resource, else by the label that the printer finds; a call, a
-- definition and a footnote definition by their labels
abbrev pub RefersAlike : Name → Point → Point → Forest → Type 0
RefersAlike Link start end children =
    HasResource children ⊎ IsLabelled (referring_in children) children
RefersAlike Image start end children =
    HasResource children ⊎ IsLabelled (referring_in children) children
RefersAlike GfmFootnoteCall start end children = IsLabelled (label_in_node children) children
RefersAlike Definition start end children = IsLabelled (defined_label children) children
RefersAlike GfmFootnoteDefinition start end children = IsLabelled (footnote_label children) children
RefersAlike _ start end children = Unit {0}

-- the identifiers of the definitions in some nodes, in the order of their exits
abbrev pub defined_in : List ℕ → Forest → List (List ℕ)
defined_in bytes Empty = []
defined_in bytes (Node name start end children rest) =
    defined_in bytes children
    ++ (when (is Definition name) (identifier_of bytes children ∷ []) ++ defined_in bytes rest)

-- those of the footnote definitions
abbrev pub footnotes_defined_in : List ℕ → Forest → List (List ℕ)
footnotes_defined_in bytes Empty = []
footnotes_defined_in bytes (Node name start end children rest) =
    footnotes_defined_in bytes children
    ++ (when (is GfmFootnoteDefinition name) (identifier_of bytes children ∷ [])
    ++ footnotes_defined_in bytes rest)

-- a link or an image without a resource refers to a definition of the document, a call to a
-- footnote definition
abbrev pub RefersSomewhere : List ℕ → Forest → Name → Point → Point → Forest → Type 0
RefersSomewhere bytes document Link start end children =
    HasResource children ⊎ Contains (defined_in bytes document) (identifier_of bytes children)
RefersSomewhere bytes document Image start end children =
    HasResource children ⊎ Contains (defined_in bytes document) (identifier_of bytes children)
RefersSomewhere bytes document GfmFootnoteCall start end children =
    Contains (footnotes_defined_in bytes document) (identifier_of bytes children)
RefersSomewhere bytes document _ start end children = Unit {0}

-- the number, from 0, of the first of some identifiers that equals this one
abbrev pub first_of : List (List ℕ) → List ℕ → Option ℕ
first_of [] wanted = None
first_of (identifier ∷ others) wanted =
    if bytes_eq identifier wanted then Some 0
    else option_map (λ place. suc place) (first_of others wanted)

-- the check and the meaning find the same definition, or footnote definition, for a label
abbrev pub ResolvesAlike : List ℕ → Forest → Name → Point → Point → Forest → Type 0
ResolvesAlike bytes document name start end children =
    (label : Position) → target_of children Missing ≡ Label label →
    (definition_for bytes (mentions_of document) (Reference label)
    ≡ first_of (defined_in bytes document) (identifier_of bytes children))
    × (footnote_for bytes (mentions_of document) (Call label)
    ≡ first_of (footnotes_defined_in bytes document) (identifier_of bytes children))

-- the element at an index, if there is one
abbrev pub found_at : {A : Type 0} → List A → Option ℕ → Option A
found_at found place = option_and_then (λ there. slice_get found there) place
