-- Positions that a node's children decide, and what is read there, for contracts of functions that
-- look it up.
use Rattle.std.specs.Prelude.{ℕ, if◌then◌else◌, List, [], Option, Some, None}
use Rattle.md_base.specs.declared.event.Point.{Point}
use Rattle.md_base.specs.declared.event.Position.{Position}
use Rattle.md_base.specs.Identifier.{normalized}
use Rattle.md_base.specs.Place.{fits}
use Rattle.md_base.specs.Tree.{Forest}
use Rattle.md_base.specs.NameTests.{is_label_text, is_footnote_label}
use Rattle.md_base.specs.Children.{first_on_spine}
use Rattle.md_tree.specs.Rules.{columns}
use Rattle.md_meaning.specs.Texts.{label_of}

-- the position of a node
abbrev pub position : Point → Point → Forest → Position
position start end children = record { start = start; end = end }

-- the length of a mark, with the columns of tabs that are cut at its ends
abbrev pub length_of : List ℕ → Position → ℕ
length_of bytes place =
    if fits bytes place.start place.end then columns place.start place.end else 0

-- the position of the text in a label
abbrev pub text_in_label : Forest → Option Position
text_in_label children = first_on_spine is_label_text position children

-- the position of the label in the prefix of a footnote definition
abbrev pub label_in_prefix : Forest → Option Position
label_in_prefix children = first_on_spine is_footnote_label position children

-- the identifier at a position
abbrev pub identifier_at : List ℕ → Option Position → List ℕ
identifier_at bytes place =
    elim place [ None ↦ [] | Some at ↦ normalized (label_of bytes at.start at.end) ]
