-- Finds the node on a spine that a name reads. Only contracts of private functions cite it.
use Rattle.std.specs.Prelude.{Bool, ℕ, if◌then◌else◌}
use Rattle.md_base.specs.declared.event.Name.{Name}
use Rattle.md_base.specs.declared.event.Name.TheVariants as named
use Rattle.md_pattern.specs.declared.seeking.Wanted.{Wanted}
use Rattle.md_pattern.specs.declared.seeking.Wanted.TheVariants as want
use Rattle.md_pattern.specs.declared.seeking.Found.{Found}
use Rattle.md_pattern.specs.declared.seeking.Found.TheVariants as so_far
use Rattle.md_pattern.specs.declared.seeking.Sight.{Sight}
use Rattle.md_pattern.specs.declared.seeking.Sight.TheVariants as looks
use Rattle.md_pattern.specs.declared.seeking.Sought.{Sought}
use Rattle.md_base.specs.NameTests.{is_heading_mark, is_item, is_item_prefix, is_item_value}
use Rattle.md_base.specs.NameTests.{is_label, is_label_text, is_definition_label}
use Rattle.md_base.specs.NameTests.{is_footnote_prefix, is_footnote_label}

-- the target of the search on the spine of a name
abbrev pub wanted_by : Name → Wanted
wanted_by named.HeadingAtx = want.Mark
wanted_by named.ListOrdered = want.Item
wanted_by named.ListItem = want.Prefix
wanted_by named.ListItemPrefix = want.Value
wanted_by named.Link = want.Media
wanted_by named.Image = want.Media
wanted_by named.GfmFootnoteCall = want.Label
wanted_by named.Label = want.LabelText
wanted_by named.Definition = want.DefinitionLabel
wanted_by named.GfmFootnoteDefinition = want.FootnotePrefix
wanted_by named.GfmFootnoteDefinitionPrefix = want.FootnoteLabel
wanted_by _ = want.Nothing

-- a new search on the spine of a name
abbrev pub search_of : Name → Sought
search_of name = record { wanted = wanted_by name; found = so_far.Nothing; read_at = 0 }

-- how a node matches on the spine of a link or an image
abbrev pub sight_in_media : Name → Sight
sight_in_media named.Label = looks.Holder
sight_in_media named.ReferenceString = looks.Reference
sight_in_media _ = looks.Other

abbrev pub itself_if : Bool → Sight
itself_if is = if is then looks.Itself else looks.Other

abbrev pub holder_if : Bool → Sight
holder_if is = if is then looks.Holder else looks.Other

-- how a node matches on a spine
abbrev pub sight : Wanted → Name → Sight
sight want.Nothing name = looks.Other
sight want.Mark name = itself_if (is_heading_mark name)
sight want.Item name = holder_if (is_item name)
sight want.Prefix name = holder_if (is_item_prefix name)
sight want.Value name = itself_if (is_item_value name)
sight want.Media name = sight_in_media name
sight want.Label name = holder_if (is_label name)
sight want.LabelText name = itself_if (is_label_text name)
sight want.DefinitionLabel name = itself_if (is_definition_label name)
sight want.FootnotePrefix name = holder_if (is_footnote_prefix name)
sight want.FootnoteLabel name = itself_if (is_footnote_label name)

-- a search that records this result, unless there is one
abbrev pub first_where : Found → Sought → ℕ → Sought
first_where so_far.Nothing sought index = record sought { found = so_far.First; read_at = index }
first_where _ sought index = sought

abbrev pub first : Sought → ℕ → Sought
first sought index = first_where sought.found sought index

-- a search that records a reference, unless there is one
abbrev pub refer_where : Found → Sought → ℕ → Sought
refer_where so_far.Reference sought index = sought
refer_where _ sought index = record sought { found = so_far.Reference; read_at = index }

abbrev pub refer : Sought → ℕ → Sought
refer sought index = refer_where sought.found sought index

-- a search after a node that is entered here, and in which the search found `inner`
abbrev pub seen_as : Sight → Sought → ℕ → ℕ → Sought
seen_as looks.Other sought entry inner = sought
seen_as looks.Itself sought entry inner = first sought entry
seen_as looks.Holder sought entry inner = first sought inner
seen_as looks.Reference sought entry inner = refer sought entry

abbrev pub seen : Sought → Name → ℕ → ℕ → Sought
seen sought name entry inner = seen_as (sight sought.wanted name) sought entry inner
