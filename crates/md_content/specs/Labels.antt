-- The labels by which nodes refer to one another, as the printer finds them ahead. Only proofs use
-- it.
use Rattle.std.specs.Prelude.{Bool, Option, None, unwrap_or, is_some, if◌then◌else◌}
use Rattle.md_base.specs.declared.event.Name.{Name}
use Rattle.md_base.specs.declared.event.Position.{Position}
use Rattle.md_base.specs.Tree.{Forest}
use Rattle.md_base.specs.Children.{first_on_spine}
use Rattle.md_base.specs.NameTests.{is_label, is_label_text, is_reference, is_definition_label}
use Rattle.md_base.specs.NameTests.{is_footnote_prefix, is_footnote_label}
use Rattle.md_tree.specs.Rules.{place}

-- the position of the first node on the spine whose name passes a test
abbrev pub first_by : (Name → Bool) → Forest → Option Position
first_by test children = first_on_spine test (λ start end inner. place start end) children

-- the result of a function for the children of the first such node
abbrev pub in_first_by : (Name → Bool) → (Forest → Option Position) → Forest → Option Position
in_first_by test find children =
    unwrap_or (first_on_spine test (λ start end inner. find inner) children) None

-- the text of a node's label
abbrev pub label_in_node : Forest → Option Position
label_in_node children = in_first_by is_label (first_by is_label_text) children

-- the reference of a link or an image if it has one, else the text of its label
abbrev pub referring_in : Forest → Option Position
referring_in children =
    if is_some (first_by is_reference children) then first_by is_reference children
    else label_in_node children

-- the label of a definition
abbrev pub defined_label : Forest → Option Position
defined_label children = first_by is_definition_label children

-- the label of a footnote definition, in its prefix
abbrev pub footnote_label : Forest → Option Position
footnote_label children = in_first_by is_footnote_prefix (first_by is_footnote_label) children
