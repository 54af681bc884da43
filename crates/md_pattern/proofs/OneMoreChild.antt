-- The facts about some children with one more after them.
use Rattle.std.proofs.Common.{arith, ◌≡◌, Bool, true, false, not, ◌&&◌, ◌||◌, cond}
use Rattle.md_base.specs.declared.event.Name.{Name}
use Rattle.md_base.specs.declared.event.Name.TheVariants as name_variants
use name_variants.{BlankLineEnding, ListItem, GfmTableDelimiterMarker, SpaceOrTab, ListItemPrefix}
use name_variants.{BlockQuotePrefix, BlockQuote}
use Rattle.md_pattern.specs.declared.summary.Last.{Last}
use Rattle.md_pattern.specs.declared.summary.Last.TheVariants as final
use Rattle.md_pattern.specs.declared.summary.Summary.{Summary}
use Rattle.md_base.specs.Is.{is}
use Rattle.md_pattern.specs.Summary.{spaced, is_bare_last, parts, loosens}
use Rattle.md_pattern.specs.Summary.{is_nothing, is_marker_last, summary_with}

-- the last child is a block quote's prefix
abbrev pub is_quote_last : Last → Bool
is_quote_last final.QuotePrefix = true
is_quote_last _ = false

-- the last child is no item's prefix
abbrev pub not_prefix : Last → Bool
not_prefix final.Prefix = false
not_prefix _ = true

pub or-false : (b : Bool) → b ≡ (b || false)
or-false b = grind arith

-- nothing stands after a marker in a node of this name, by its own last child
abbrev pub bare_by : Name → Last → Bool
bare_by name own = is ListItemPrefix name || (is BlockQuote name && is_quote_last own)

-- ---- each test of the last child, by its name, its own last child and the child before it
pub record IsLast (name : Name) (own before last : Last) : Type 0 where
  pub quote : is_quote_last last ≡ is BlockQuotePrefix name
  pub marker : is_marker_last last ≡ is GfmTableDelimiterMarker name
  pub nothing : is_nothing last ≡ false
  pub parting : parts last ≡ not (is ListItem name && is_bare_last own)
  pub loosening : loosens last
      ≡ cond (is SpaceOrTab name) (not_prefix before) (not (is ListItemPrefix name))
  pub prefix : not_prefix last ≡ not (is ListItemPrefix name)
  pub bare : is_bare_last last
      ≡ cond (is SpaceOrTab name) (is_bare_last (spaced before)) (bare_by name own)
  pub bare_spaced : is_bare_last (spaced last) ≡ bare_by name own

pub last_with : (name : Name) (own summary : Summary) →
    IsLast name own.last summary.last (Summary.last (summary_with name own summary))
last_with name own summary = grind arith

-- ---- what is known of all of them
pub begins_with : (name : Name) (own summary : Summary) →
    Summary.begins_with_marker (summary_with name own summary)
    ≡ (summary.begins_with_marker || (is GfmTableDelimiterMarker name && is_nothing summary.last))
begins_with name own summary = grind arith

pub without_with : (name : Name) (own summary : Summary) → Summary.without_items
    (summary_with name own summary)
    ≡ (summary.without_items || (is BlankLineEnding name && parts summary.last))
without_with name own summary = grind arith

pub item_with : (name : Name) (own summary : Summary) → Summary.of_item
    (summary_with name own summary)
    ≡ (summary.of_item || (is BlankLineEnding name && loosens summary.last))
item_with name own summary = grind arith

pub loose_item_with : (name : Name) (own summary : Summary) →
    Summary.has_loose_item (summary_with name own summary)
    ≡ (summary.has_loose_item || (is ListItem name && own.of_item))
loose_item_with name own summary = grind arith
