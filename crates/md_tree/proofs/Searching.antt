-- The search over a spine finds the place that a name reads. First one step of a search: from the
-- state before a node to the state after it.
use Rattle.std.proofs.Common.{arith, ◌≡◌, ℕ, Bool, true, false, cond, Option, Some, None, refl, ap}
use Rattle.std.proofs.Common.{suc, ◌∙◌}
use Rattle.md_tree.proofs.Common.{unwrap_or, Name, Point, Position, Wanted, Sought, Forest}
use Rattle.md_tree.proofs.Common.{is_heading_mark, is_item_value, is_label_text, is_reference}
use Rattle.md_tree.proofs.Common.{is_definition_label, is_footnote_label, or_else, first_on_spine}
use Rattle.md_tree.proofs.Common.{place, first_place, option_map, Empty, Node, lie, wanted_by}
use Rattle.md_tree.proofs.Common.{reads, is_reader, is_transparent, index_after, search_of}
use Rattle.md_tree.proofs.Common.{sought_over}
use Rattle.md_base.specs.NameTests.{is_item, is_item_prefix, is_label, is_footnote_prefix}
use Rattle.md_tree.specs.Reads.{number_in}
use Rattle.md_pattern.specs.declared.seeking.Wanted.TheVariants as want
use Rattle.md_pattern.specs.declared.seeking.Found.{Found}
use Rattle.md_pattern.specs.declared.seeking.Found.TheVariants as so_far
use Rattle.md_pattern.specs.Seeking.{sight, seen_as, seen}
use Rattle.md_base.specs.declared.event.Name.TheVariants as name_variants
use name_variants.{HeadingAtx, ListOrdered, ListItem, ListItemPrefix, Link, Image, Label}
use name_variants.{GfmFootnoteCall, Definition, GfmFootnoteDefinition, GfmFootnoteDefinitionPrefix}
use Rattle.md_pattern.specs.Facts.{sought_after}

-- which node a search stops at, and what it finds there
abbrev pub seeks : Wanted → Name → Bool
seeks want.Nothing name = false
seeks want.Mark name = is_heading_mark name
seeks want.Item name = is_item name
seeks want.Prefix name = is_item_prefix name
seeks want.Value name = is_item_value name
seeks want.Media name = is_label name
seeks want.Label name = is_label name
seeks want.LabelText name = is_label_text name
seeks want.DefinitionLabel name = is_definition_label name
seeks want.FootnotePrefix name = is_footnote_prefix name
seeks want.FootnoteLabel name = is_footnote_label name

abbrev pub finds : Wanted → Point → Point → Forest → Option Position
finds want.Nothing start end inner = None
finds want.Mark start end inner = Some (place start end)
finds want.Item start end inner = number_in inner
finds want.Prefix start end inner = first_place is_item_value inner
finds want.Value start end inner = Some (place start end)
finds want.Media start end inner = first_place is_label_text inner
finds want.Label start end inner = first_place is_label_text inner
finds want.LabelText start end inner = Some (place start end)
finds want.DefinitionLabel start end inner = Some (place start end)
finds want.FootnotePrefix start end inner = first_place is_footnote_label inner
finds want.FootnoteLabel start end inner = Some (place start end)

-- a reference counts for links and images alone
abbrev pub refers : Wanted → Name → Bool
refers want.Media name = is_reference name
refers _ name = false

abbrev pub spot : Wanted → Forest → Option (Option Position)
spot w forest = first_on_spine (seeks w) (finds w) forest

abbrev pub reference : Wanted → Forest → Option (Option Position)
reference w forest = first_on_spine (refers w) (λ start end inner. Some (place start end)) forest

-- what has been found, after this and a reference
abbrev pub found_after : Found → Option (Option Position) → Option (Option Position) → Found
found_after so_far.Reference o r = so_far.Reference
found_after so_far.First o (Some r) = so_far.Reference
found_after so_far.First o None = so_far.First
found_after so_far.Nothing o (Some r) = so_far.Reference
found_after so_far.Nothing (Some o) None = so_far.First
found_after so_far.Nothing None None = so_far.Nothing

abbrev pub place_after : Found → Option Position → Option (Option Position) →
    Option (Option Position) → Option Position
place_after so_far.Reference p o r = p
place_after so_far.First p o r = unwrap_or r p
place_after so_far.Nothing p o r = unwrap_or r (unwrap_or o p)

abbrev pub At : Type 0
At = ℕ → Option Position

-- a search changes one state to another by what it finds
pub record Searched (at : At) (from to : Sought) (o r : Option (Option Position)) : Type 0 where
  pub wanted : to.wanted ≡ from.wanted
  pub found : to.found ≡ found_after from.found o r
  pub places : at to.read_at ≡ place_after from.found (at from.read_at) o r

module _ (at : At) where
  pub joined : (from middle to : Sought) (o r later more : Option (Option Position)) →
      Searched at from middle o r → Searched at middle to later more →
      Searched at from to (or_else o later) (or_else r more)
  joined from middle to o r later more a b = grind arith

  pub nothing : (s : Sought) → Searched at s s None None
  nothing s = grind arith

-- ---- one node

-- which node holds what is sought, and is found in it
abbrev pub is_holder : Wanted → Name → Bool
is_holder want.Item name = is_item name
is_holder want.Prefix name = is_item_prefix name
is_holder want.Media name = is_label name
is_holder want.Label name = is_label name
is_holder want.FootnotePrefix name = is_footnote_prefix name
is_holder _ name = false

abbrev pub Held : At → Wanted → Name → Point → Point → Forest → ℕ → Type 0
Held at w name start end children inner =
    is_holder w name ≡ true → at inner ≡ finds w start end children

pub solid_step : (at : At) (w : Wanted) (s : Sought) (name : Name) (start end : Point)
    (children : Forest) (m inner : ℕ) → at m ≡ Some (place start end) →
    Held at w name start end children inner → Searched at s (seen_as (sight w name) s m inner)
    (cond (seeks w name) (Some (finds w start end children)) None)
    (cond (refers w name) (Some (Some (place start end))) None)
solid_step at want.Nothing s name start end children m inner here held = nothing at s
solid_step at _ s name start end children m inner here held = grind (arith, held)

-- What is found on a spine, in the words of the definitions: the place of the first node.

no_reference : {A : Type 0} (tell : Point → Point → Forest → A) (forest : Forest) →
    first_on_spine (λ name. false) tell forest ≡ None
no_reference tell Empty = refl
no_reference tell (Node name start end children rest) =
    grind (arith, no_reference tell children, no_reference tell rest)

map_or_else : (o p : Option Position) →
    or_else (option_map Some o) (option_map Some p) ≡ option_map Some (or_else o p)
map_or_else o p = grind arith

map_here : (passes through : Bool) (here : Position) (inside : Option Position) →
    cond passes (Some (Some here)) (cond through (option_map Some inside) None)
    ≡ option_map Some (cond passes (Some here) (cond through inside None))
map_here passes through here inside = grind arith

-- the place of the first node
places_mapped : (test : Name → Bool) (forest : Forest) → first_on_spine test
    (λ start end inner. Some (place start end)) forest ≡ option_map Some (first_place test forest)
places_mapped test Empty = refl
places_mapped test (Node name start end children rest) =
    grind (arith, places_mapped test children, places_mapped test rest, map_here, map_or_else)

unwrap_mapped : (o p : Option Position) → unwrap_or (option_map Some o) p ≡ or_else o p
unwrap_mapped o p = grind arith

abbrev here_place : Point → Point → Forest → Option Position
here_place start end inner = Some (place start end)

-- what is found where there is no reference
alone : (o : Option (Option Position)) (forest : Forest) → unwrap_or
    (first_on_spine (λ name. false) here_place forest) (unwrap_or o None) ≡ unwrap_or o None
alone o forest = ap (λ r. unwrap_or r (unwrap_or o None)) (no_reference here_place forest)

place_found : (test : Name → Bool) (forest : Forest) →
    unwrap_or (first_on_spine (λ name. false) here_place forest)
    (unwrap_or (first_on_spine test here_place forest) None) ≡ first_place test forest
place_found test forest = grind (arith, alone, places_mapped, unwrap_mapped)

-- what a search of a name's own spine finds
abbrev pub found_in : Name → Forest → Option Position
found_in name children = unwrap_or (reference (wanted_by name) children)
    (unwrap_or (spot (wanted_by name) children) None)

in_holder : (w : Wanted) (name : Name) (start end : Point) (children : Forest) →
    is_holder w name ≡ true → found_in name children ≡ finds w start end children
in_holder want.Item ListItem start end children h = alone (spot want.Prefix children) children
in_holder want.Prefix ListItemPrefix start end children h = place_found is_item_value children
in_holder want.Media Label start end children h = place_found is_label_text children
in_holder want.Label Label start end children h = place_found is_label_text children
in_holder want.FootnotePrefix GfmFootnoteDefinitionPrefix start end children h =
    place_found is_footnote_label children
in_holder _ _ start end children h = absurd (lie h)

pub held : (at : At) (w : Wanted) (name : Name) (start end : Point) (children : Forest)
    (inner : ℕ) → at inner ≡ found_in name children → Held at w name start end children inner
held at w name start end children inner e = grind (arith, in_holder)

pub reader_finds : (name : Name) (children : Forest) → is_reader name ≡ true →
    found_in name children ≡ reads name children
reader_finds HeadingAtx children h = place_found is_heading_mark children
reader_finds ListOrdered children h = alone (spot want.Item children) children
reader_finds Link children h = grind (arith, places_mapped, unwrap_mapped)
reader_finds Image children h = grind (arith, places_mapped, unwrap_mapped)
reader_finds GfmFootnoteCall children h = alone (spot want.Label children) children
reader_finds Definition children h = place_found is_definition_label children
reader_finds GfmFootnoteDefinition children h = alone (spot want.FootnotePrefix children) children
reader_finds _ children h = absurd (lie h)

-- a transparent node is nothing that is sought
passed_by : (w : Wanted) (name : Name) → is_transparent name ≡ true →
    (seeks w name ≡ false) × (refers w name ≡ false)
passed_by w name h = grind arith

-- each node is at the index of the event that enters it
abbrev pub AllAt : At → ℕ → Forest → Type 0
AllAt at index Empty = Unit {0}
AllAt at index (Node name start end children rest) =
    (at index ≡ Some (place start end)) × AllAt at (suc index) children
    × AllAt at (suc (index_after (suc index) children)) rest

-- a search over some nodes
abbrev Searches : At → ℕ → Forest → Type 0
Searches at index forest =
    (s : Sought) →
    Searched at s (sought_over index forest s) (spot s.wanted forest) (reference s.wanted forest)

module _ (at : At) (none : at 0 ≡ None) where
  node_step : (index : ℕ) (name : Name) (start end : Point) (children : Forest) (s : Sought) →
      at index ≡ Some (place start end) → Searches at (suc index) children → (through : Bool) →
      is_transparent name ≡ through → Searched at s (cond through
      (sought_over (suc index) children (cond through s (search_of name))) (seen s name index
      (Sought.read_at (sought_over (suc index) children (cond through s (search_of name))))))
      (cond (seeks s.wanted name) (Some (finds s.wanted start end children))
      (cond through (spot s.wanted children) None)) (cond (refers s.wanted name)
      (Some (Some (place start end))) (cond through (reference s.wanted children) None))
  node_step index name start end children s here inside true e = grind (arith, passed_by)
  node_step index name start end children s here inside false e =
      let own = sought_over (suc index) children _ in
      let own_found : at own.read_at ≡ found_in name children =
      Searched.places (inside _) ∙ ap (λ p. unwrap_or (reference (wanted_by name) children)
      (unwrap_or (spot (wanted_by name) children) p)) none in
      solid_step at s.wanted s name start end children index own.read_at here
      (held at s.wanted name start end children own.read_at own_found)

  searched : (forest : Forest) (index : ℕ) → AllAt at index forest → Searches at index forest
  searched Empty index all s = nothing at s
  searched (Node name start end children rest) index all s =
      let later = suc (index_after _ children) in
      let middle =
      sought_after name index (sought_over _ children _) s in
      let here = node_step index name start end children s all.0
      (searched children _ all.1) (is_transparent name) refl in
      joined at s middle _ _ _ _ _ here (rw (Searched.wanted here) at
      (searched rest later all.2 middle))

  -- what a name reads
  pub reads-found : (name : Name) (children : Forest) (index : ℕ) → AllAt at index children →
      is_reader name ≡ true →
      at (Sought.read_at (sought_over index children (search_of name))) ≡ reads name children
  reads-found name children index all h = grind (arith, searched, reader_finds)
