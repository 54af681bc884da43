-- The node that a name reads on its spine, by its position.
use Rattle.std.specs.Prelude.{◌≡◌, ℕ, Bool, true, false, Option, None, unwrap_or, IsTrue}
use Rattle.md_base.specs.declared.event.Name.{Name}
use Rattle.md_base.specs.declared.event.Name.TheVariants as name_variants
use name_variants.{HeadingAtx, ListOrdered, Link, Image, GfmFootnoteCall, Definition}
use name_variants.{GfmFootnoteDefinition}
use Rattle.md_base.specs.declared.event.Position.{Position}
use Rattle.md_base.specs.Tree.{Forest}
use Rattle.md_base.specs.NameTests.{is_heading_mark, is_item, is_item_prefix, is_item_value}
use Rattle.md_base.specs.NameTests.{is_label, is_label_text, is_reference, is_definition_label}
use Rattle.md_base.specs.NameTests.{is_footnote_prefix, is_footnote_label}
use Rattle.md_base.specs.Children.{or_else, first_on_spine}
use Rattle.md_tree.specs.Rules.{place}
use Rattle.md_tree.specs.Grammar.{Handed}
use Rattle.md_tree.specs.Texts.{EntersAt}
use Rattle.md_tree.specs.Entered.{IsEnteredAt}

-- the position of the first node on a spine that passes a test
abbrev pub first_place : (Name → Bool) → Forest → Option Position
first_place test children = first_on_spine test (λ start end inner. place start end) children

-- the result of a function for the children of the first such node
abbrev pub in_first : (Name → Bool) → (Forest → Option Position) → Forest → Option Position
in_first test found children =
    unwrap_or (first_on_spine test (λ start end inner. found inner) children) None

-- the number in the first prefix of an item
abbrev pub number_in : Forest → Option Position
number_in item = in_first is_item_prefix (first_place is_item_value) item

-- the text of the first label
abbrev pub label_in : Forest → Option Position
label_in children = in_first is_label (first_place is_label_text) children

-- the position that a name reads: a heading's first mark, the number of a list's first item, the
-- label or reference of a link, an image or a call, the label of a definition
abbrev pub reads : Name → Forest → Option Position
reads HeadingAtx children = first_place is_heading_mark children
reads ListOrdered children = in_first is_item number_in children
reads Link children = or_else (first_place is_reference children) (label_in children)
reads Image children = or_else (first_place is_reference children) (label_in children)
reads GfmFootnoteCall children = label_in children
reads Definition children = first_place is_definition_label children
reads GfmFootnoteDefinition children =
    in_first is_footnote_prefix (first_place is_footnote_label) children
reads _ children = None

-- a name that reads a position
abbrev pub is_reader : Name → Bool
is_reader HeadingAtx = true
is_reader ListOrdered = true
is_reader Link = true
is_reader Image = true
is_reader GfmFootnoteCall = true
is_reader Definition = true
is_reader GfmFootnoteDefinition = true
is_reader _ = false

-- the position that is read of the node that the event at an index enters, if its name reads one
abbrev pub IsReadAt : Handed → ℕ → Option Position → Type 0
IsReadAt given index found =
    (name : Name) (children : Forest) → EntersAt given.events index name → IsTrue (is_reader name) →
    IsEnteredAt given index children → found ≡ reads name children
