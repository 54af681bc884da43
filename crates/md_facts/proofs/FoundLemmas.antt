-- What is found of a node by its children is what is noticed of it.
use Rattle.std.proofs.Common.{arith, ◌≡◌, ◌⊎◌, inl, inr, ℕ, suc, Bool, true, Option, Some, None}
use Rattle.std.proofs.Common.{List, [], ◌∷◌, ◌++◌, length, refl, ap, ◌∙◌}
use Rattle.std.specs.Prelude.{slice_get, if◌then◌else◌}
use Rattle.std.specs.Option.{option_map_or}
use Rattle.std.proofs.Math.Path.{fun_ext}
use Rattle.md_base.specs.declared.event.Event.{Event}
use Rattle.md_base.specs.declared.event.Name.{Name}
use Rattle.md_base.specs.declared.event.Name.TheVariants as name_variants
use name_variants.{HeadingAtx, HeadingAtxSequence, ListItem, ListItemPrefix, ListItemValue}
use name_variants.{ListOrdered, ListUnordered}
use Rattle.md_base.specs.declared.event.Point.{Point}
use Rattle.md_base.specs.declared.event.Position.{Position}
use Rattle.md_base.specs.Children.{or_else, last_contributing}
use Rattle.md_base.specs.Is.{is}
use Rattle.md_base.specs.NameTests.{contributes, is_heading_mark, is_item, is_item_prefix}
use Rattle.md_base.specs.NameTests.{is_item_value}
use Rattle.md_base.specs.Place.{fits}
use Rattle.md_base.specs.Tree.{Forest, Empty, Node, flatten, entering, exiting}
use Rattle.md_pattern.specs.Partners.{index_after, last_contributing_at}
use Rattle.md_pattern.proofs.CountedFacts.{length_one}
use Rattle.md_meaning.specs.Meaning.Finds.{first_named, number_in_list}
use Rattle.md_meaning.specs.Places.{length_of}
use Rattle.md_pattern.specs.declared.kinds.Role.TheVariants as role
use Rattle.md_content.specs.Built.{IsFit}
use Rattle.md_content.specs.References.{Everywhere}
use Rattle.md_content.proofs.FineNodes.{fine}
use Rattle.md_content.proofs.Fitting.{fit}
use Rattle.md_content.proofs.TextsThere.{everywhere}
use Rattle.md_tree.specs.Entered.{IsEnteredAt}
use Rattle.md_tree.specs.Found.{EntersSome}
use Rattle.md_tree.specs.Grammar.{Handed, IsChecked, IsGrammatical}
use Rattle.md_tree.specs.Reads.{first_place, in_first, number_in}
use Rattle.md_tree.specs.Rules.{columns}
use Rattle.md_tree.specs.Texts.{EntersAt}
use Rattle.md_tree.proofs.Entering.{get_at}
use Rattle.md_tree.proofs.Placing.{at_entry, after_node, length_events}
use Rattle.md_facts.proofs.Nodes.{NodeAt, node-entered, same-document}
use Rattle.md_facts.proofs.Noticed.{node-everywhere}

-- a list of either kind
pub enters-list : (events : List Event) (index : ℕ) → EntersAt events index ListOrdered
    ⊎ EntersAt events index ListUnordered → EntersSome events index
enters-list events index (inl ordered) = (ListOrdered, ordered)
enters-list events index (inr unordered) = (ListUnordered, unordered)

-- ---- names that are tested for

mark_is : (name : Name) → is_heading_mark name ≡ is HeadingAtxSequence name
mark_is name = grind arith

item_is : (name : Name) → is_item name ≡ is ListItem name
item_is name = grind arith

prefix_is : (name : Name) → is_item_prefix name ≡ is ListItemPrefix name
prefix_is name = grind arith

value_is : (name : Name) → is_item_value name ≡ is ListItemValue name
value_is name = grind arith

pub number-same : (children : Forest) →
    in_first is_item number_in children ≡ number_in_list children
number-same children = simp (fun_ext item_is, fun_ext prefix_is, fun_ext value_is)

-- ---- the rank of a heading

-- the document is one of the grammar
pub grammatical-there : (given : Handed) (document : Forest) → IsChecked given →
    flatten document ≡ given.events →
    IsGrammatical given.bytes given.names document
grammatical-there given document checked flat = grind (arith, same-document)

all-fit : (bytes : List ℕ) (names : List (List ℕ × List ℕ)) (document : Forest) →
    IsGrammatical bytes names document → Everywhere (IsFit bytes) document
all-fit bytes names document grammatical =
    everywhere bytes names (IsFit bytes) (λ around before name start end children here inside.
    fit bytes names name around before start end children here inside) document role.Flow None
    (fine bytes names document role.Flow None grammatical.shape.0 grammatical.rules)

fitting : (bytes : List ℕ) (found : Option Position) →
    option_map_or (λ at. fits bytes at.start at.end) found true ≡ true →
    option_map_or (λ at. length_of bytes at) found 0
    ≡ option_map_or (λ at. columns at.start at.end) found 0
fitting bytes found lies = grind arith

pub rank-found : (given : Handed) (document : Forest) (index exit : ℕ)
    (node : NodeAt given document HeadingAtx index exit) → IsChecked given →
    flatten document ≡ given.events →
    (found : Option Position) → found ≡ first_place is_heading_mark node.children →
    option_map_or (λ at. length_of given.bytes at) found 0
    ≡ option_map_or (λ at. columns at.start at.end) (first_named HeadingAtxSequence node.children) 0
rank-found given document index exit node checked flat found reads =
    let own = node-everywhere (IsFit given.bytes) given document HeadingAtx index exit node
    (all-fit given.bytes given.names document (grammatical-there given document checked flat)) in
    rw (reads, fun_ext mark_is)
    (fitting given.bytes (first_named HeadingAtxSequence node.children) own.2)

-- ---- the last child that contributes

-- at this index a node of this name is entered, or neither is there
abbrev pub Named : List Event → Option ℕ → Option Name → Type 0
Named events None name = name ≡ None
Named events (Some index) name = (other : Name) × (name ≡ Some other) × EntersAt events index other

named-else : (events : List Event) (one two : Option ℕ) (name other : Option Name) →
    Named events one name →
    Named events two other → Named events (or_else one two) (or_else name other)
named-else events one two name other a b = grind arith

named-own : (events : List Event) (index : ℕ) (name : Name) (start : Point) (b : Bool) →
    slice_get events index ≡ Some (entering name start) →
    Named events (if b then Some index else None) (if b then Some name else None)
named-own events index name start b got = grind arith

named-forest : (events : List Event) (forest : Forest) (index : ℕ) (seen later : List Event) →
    length seen ≡ index →
    events ≡ seen ++ (flatten forest ++ later) →
    Named events (last_contributing_at index forest) (last_contributing forest)
named-forest events Empty index seen later e same = refl
named-forest events (Node name start end children rest) index seen later e same =
    let exit = index_after (suc index) children in
    let first : Event = entering name start in
    let last : Event = exiting name end in
    let inner : List Event = flatten children in
    let one = length_one seen first ∙ ap suc e in
    let inside = length_events children (suc index) (seen ++ first ∷ []) one in
    named-else events (last_contributing_at (suc exit) rest)
    (if contributes name then Some index else None)
    (last_contributing rest) (if contributes name then Some name else None)
    (named-forest events rest (suc exit) (((seen ++ first ∷ []) ++ inner) ++ last ∷ []) later
    (length_one ((seen ++ first ∷ []) ++ inner) last ∙ ap suc inside)
    (after_node events seen inner (flatten rest) later first last same))
    (named-own events index name start (contributes name)
    (ap (λ es. slice_get es index) (at_entry events seen inner (flatten rest) later first last same)
    ∙ get_at seen (inner ++ (last ∷ (flatten rest ++ later))) first index e))

pub contributing-named : (given : Handed) (index : ℕ) (name : Name) (children : Forest) →
    EntersAt given.events index name → IsEnteredAt given index children →
    Named given.events (last_contributing_at (suc index) children) (last_contributing children)
contributing-named given index name children enters entered =
    let found = node-entered given entered.0 entered.1 index name enters in
    let node : NodeAt given entered.0 name index found.0 = found.1 in
    let same : node.children ≡ children = cc (node.inner, entered.2) in
    let first : Event = entering name node.start in
    rw same at (named-forest given.events node.children (suc index) (node.before ++ first ∷ [])
    (exiting name node.end ∷ node.beyond)
    (length_one node.before first ∙ ap suc node.counted) node.parts)
