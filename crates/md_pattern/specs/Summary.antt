-- Finds the looseness and the alignment of a node, from its first child to the last. Only contracts
-- of private functions cite it.
use Rattle.std.specs.Prelude.{Bool, true, false, ◌||◌, if◌then◌else◌}
use Rattle.md_base.specs.declared.event.AlignKind.{AlignKind}
use Rattle.md_base.specs.declared.event.AlignKind.TheVariants as align
use Rattle.md_base.specs.declared.event.Name.{Name}
use Rattle.md_base.specs.declared.event.Name.TheVariants as name_variants
use name_variants.{BlankLineEnding, ListItem, GfmTableDelimiterMarker, SpaceOrTab, ListItemPrefix}
use name_variants.{BlockQuotePrefix, BlockQuote}
use Rattle.md_pattern.specs.declared.summary.Last.{Last}
use Rattle.md_pattern.specs.declared.summary.Last.TheVariants as final
use Rattle.md_pattern.specs.declared.summary.Summary.{Summary}
use Rattle.md_pattern.specs.declared.summary.Looseness.{Looseness}
use Rattle.md_base.specs.Tree.{Forest, Empty, Node}

-- the last child after a space or tab that follows it
abbrev pub spaced : Last → Last
spaced final.Prefix = final.PrefixSpace
spaced final.Bare = final.BareSpace
spaced _ = final.Plain

-- nothing follows a marker in the last child
abbrev pub is_bare_last : Last → Bool
is_bare_last final.Prefix = true
is_bare_last final.PrefixSpace = true
is_bare_last final.Bare = true
is_bare_last final.BareSpace = true
is_bare_last _ = false

-- what an item is as the last child, and what a block quote is, by its own last child
abbrev pub item_as : Last → Last
item_as own = if is_bare_last own then final.BareItem else final.Plain

abbrev pub quote_as : Last → Last
quote_as final.QuotePrefix = final.Bare
quote_as _ = final.Plain

-- a blank line ending separates the last child from the next one
abbrev pub parts : Last → Bool
parts final.BareItem = false
parts _ = true

-- a blank line ending after the last child makes its item loose
abbrev pub loosens : Last → Bool
loosens final.Prefix = false
loosens final.PrefixSpace = false
loosens _ = true

-- there is no child yet
abbrev pub is_nothing : Last → Bool
is_nothing final.Nothing = true
is_nothing _ = false

-- the last child is a marker
abbrev pub is_marker_last : Last → Bool
is_marker_last final.Marker = true
is_marker_last _ = false

-- the facts about children with one more child, which has its own facts
abbrev pub summary_with : Name → Summary → Summary → Summary
summary_with BlankLineEnding own before = record before {
  last = final.Plain;
  without_items = before.without_items || parts before.last;
  of_item = before.of_item || loosens before.last;
}
summary_with ListItem own before =
    record before { last = item_as own.last; has_loose_item = before.has_loose_item || own.of_item }
summary_with GfmTableDelimiterMarker own before = record before {
  last = final.Marker;
  begins_with_marker = before.begins_with_marker || is_nothing before.last;
}
summary_with SpaceOrTab own before = record before { last = spaced before.last }
summary_with ListItemPrefix own before = record before { last = final.Prefix }
summary_with BlockQuotePrefix own before = record before { last = final.QuotePrefix }
summary_with BlockQuote own before = record before { last = quote_as own.last }
summary_with _ own before = record before { last = final.Plain }

-- the facts if there is no child
abbrev pub empty_summary : Summary
empty_summary = record {
  last = final.Nothing;
  begins_with_marker = false;
  without_items = false;
  has_loose_item = false;
  of_item = false;
}

-- the facts after some more nodes
abbrev pub summary_over : Forest → Summary → Summary
summary_over Empty summary = summary
summary_over (Node name start end children rest) summary =
    summary_over rest (summary_with name (summary_over children empty_summary) summary)

-- the looseness of a node whose children have these facts
abbrev pub looseness : Summary → Looseness
looseness own = record {
  without_items = own.without_items;
  with_items = own.without_items || own.has_loose_item;
  of_item = own.of_item;
}

-- the alignment of a column whose value has children with these facts
abbrev pub alignment : Summary → AlignKind
alignment own =
    if own.begins_with_marker
    then (if is_marker_last own.last then align.Center else align.Left)
    else (if is_marker_last own.last then align.Right else align.None)
