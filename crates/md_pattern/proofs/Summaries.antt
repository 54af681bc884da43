-- The facts that the pass finds about children are those of the definitions.
use Rattle.std.proofs.Common.{◌≡◌, Bool, false, not, ◌&&◌, ◌||◌, cond, Option, refl, ap, ◌∙◌, arith}
use Rattle.std.proofs.Math.Bool.{or_assoc, and-true}
use Rattle.std.specs.Prelude.{unwrap_or}
use Rattle.std.specs.Option.{option_map_or}
use Rattle.md_base.specs.declared.event.Name.{Name}
use Rattle.md_base.specs.declared.event.Name.TheVariants as name_variants
use name_variants.{BlankLineEnding, ListItem, GfmTableDelimiterMarker, SpaceOrTab, ListItemPrefix}
use name_variants.{BlockQuotePrefix}
use Rattle.md_pattern.specs.declared.summary.Last.{Last}
use Rattle.md_pattern.specs.declared.summary.Last.TheVariants as final
use Rattle.md_pattern.specs.declared.summary.Summary.{Summary}
use Rattle.md_base.specs.Tree.{Forest, Empty, Node}
use Rattle.md_base.specs.Is.{is}
use Rattle.md_base.specs.Children.{is_empty, last_name}
use Rattle.md_pattern.specs.Looseness.{is_bare}
use Rattle.md_pattern.specs.Looseness as written
use Rattle.md_pattern.specs.Blanks.{begins_blank, begins_space_blank, is_end, ends_bare}
use Rattle.md_pattern.specs.Blanks.{has_parting_blank, has_inner_blank, is_loose_item}
use Rattle.md_pattern.specs.Blanks.{has_loose_item}
use Rattle.md_pattern.proofs.Loosened.{item-same, without-same, items-same}
use Rattle.md_pattern.specs.Alignments.{begins_with_marker, alignment_of}
use Rattle.md_pattern.specs.Summary.{spaced, is_bare_last, parts, loosens, is_nothing}
use Rattle.md_pattern.specs.Summary.{is_marker_last}
use Rattle.md_pattern.specs.Summary.{summary_with, empty_summary, summary_over, alignment}
use Rattle.md_pattern.proofs.OneMoreChild.{is_quote_last, not_prefix, or-false, IsLast, last_with}
use Rattle.md_pattern.proofs.OneMoreChild.{begins_with, without_with, item_with, loose_item_with}

last_step : (test : Name → Bool) (o : Option Name) (name : Name) →
    option_map_or test o (test name) ≡ test (unwrap_or o name)
last_step test o name = grind arith

quote_over : (forest : Forest) (summary : Summary) → is_quote_last
    (Summary.last (summary_over forest summary))
    ≡ option_map_or (is BlockQuotePrefix) (last_name forest) (is_quote_last summary.last)
quote_over Empty summary = refl
quote_over (Node name start end children rest) summary =
    let later = quote_over rest in
    grind (arith, last_with, last_step, later)

marker_over : (forest : Forest) (summary : Summary) → is_marker_last
    (Summary.last (summary_over forest summary))
    ≡ option_map_or (is GfmTableDelimiterMarker) (last_name forest) (is_marker_last summary.last)
marker_over Empty summary = refl
marker_over (Node name start end children rest) summary =
    let later = marker_over rest in
    grind (arith, last_with, last_step, later)

begins_over : (forest : Forest) (summary : Summary) → Summary.begins_with_marker
    (summary_over forest summary)
    ≡ (summary.begins_with_marker || (begins_with_marker forest && is_nothing summary.last))
begins_over Empty summary = or-false summary.begins_with_marker
begins_over (Node name start end children rest) summary =
    let own = summary_over children empty_summary in
    begins_over rest (summary_with name own summary)
    ∙ rw (IsLast.nothing (last_with name own summary)) (rw (begins_with name own summary)
    (none (begins_with_marker rest)
    (summary.begins_with_marker || (is GfmTableDelimiterMarker name && is_nothing summary.last))))
  where
    none : (a b : Bool) → (b || (a && false)) ≡ b
    none a b = grind arith

-- nothing stands after a marker in the last of some nodes after another
abbrev bare_after : Last → Forest → Bool
bare_after l forest =
    cond (is_end forest) (cond (is_empty forest) (is_bare_last l) (is_bare_last (spaced l)))
    (ends_bare forest)

bare_step : (rest : Forest) (name : Name) (children : Forest) (own summary : Summary) →
    is_quote_last own.last ≡ option_map_or (is BlockQuotePrefix) (last_name children) false →
    bare_after (Summary.last (summary_with name own summary)) rest
    ≡ cond (is SpaceOrTab name && is_empty rest) (is_bare_last (spaced summary.last))
    (cond (is_end rest) (is_bare name children) (ends_bare rest))
bare_step rest name children own summary quote =
    let last = last_with name own summary in grind (arith, last.bare, last.bare_spaced, quote)

bare_over : (forest : Forest) (summary : Summary) → is_bare_last
    (Summary.last (summary_over forest summary))
    ≡ bare_after summary.last forest
bare_over Empty summary = refl
bare_over (Node name start end children rest) summary =
    let later = bare_over rest in
    grind (arith, bare_step, quote_over, later)

ends_bare-end : (forest : Forest) → bare_after final.Nothing forest ≡ ends_bare forest
ends_bare-end forest = grind arith

without_over : (forest : Forest) (summary : Summary) → Summary.without_items
    (summary_over forest summary)
    ≡ ((summary.without_items || (begins_blank forest && parts summary.last)) || has_parting_blank
    forest)
without_over Empty summary = grind arith
without_over (Node name start end children rest) summary =
    let own = summary_over children empty_summary in
    without_over rest (summary_with name own summary)
    ∙ ap (λ b. (b || (begins_blank rest && parts (Summary.last (summary_with name own summary))))
    || has_parting_blank rest) (without_with name own summary)
    ∙ ap (λ b. ((summary.without_items || (is BlankLineEnding name && parts summary.last))
    || (begins_blank rest && b)) || has_parting_blank rest)
    (IsLast.parting (last_with name own summary)
    ∙ ap (λ b. not (is ListItem name && b)) (bare_over children empty_summary
    ∙ ends_bare-end children))
    ∙ or_assoc (summary.without_items || (is BlankLineEnding name && parts summary.last))
    (begins_blank rest && not (is ListItem name && ends_bare children)) (has_parting_blank rest)

-- the tests of an item, rearranged
rearranged : (s p q r n i : Bool) → ((q && cond s n (not p)) || ((r && not p) || i))
    ≡ (((s && q) && n) || ((not p && ((q && not s) || r)) || i))
rearranged s p q r n i = grind arith

item_over : (forest : Forest) (summary : Summary) → Summary.of_item (summary_over forest summary)
    ≡ (summary.of_item || ((begins_blank forest && loosens summary.last)
    || ((begins_space_blank forest && not_prefix summary.last) || has_inner_blank forest)))
item_over Empty summary = or-false summary.of_item
item_over (Node name start end children rest) summary =
    let own = summary_over children empty_summary in
    let last = last_with name own summary in
    rw (
      item_over rest (summary_with name own summary),
      item_with name own summary,
      last.loosening,
      last.prefix,
      rearranged (is SpaceOrTab name) (is ListItemPrefix name)
          (begins_blank rest) (begins_space_blank rest) (not_prefix summary.last)
          (has_inner_blank rest),
    ) (or_assoc summary.of_item (is BlankLineEnding name && loosens summary.last)
    (((is SpaceOrTab name && begins_blank rest) && not_prefix summary.last)
    || has_inner_blank (Node name start end children rest)))

-- an item's children
of_item_summary : (children : Forest) →
    Summary.of_item (summary_over children empty_summary) ≡ is_loose_item children
of_item_summary children = grind (arith, item_over, and-true, or_assoc)

loose_items_over : (forest : Forest) (summary : Summary) → Summary.has_loose_item
    (summary_over forest summary)
    ≡ (summary.has_loose_item || has_loose_item forest)
loose_items_over Empty summary = or-false summary.has_loose_item
loose_items_over (Node name start end children rest) summary =
    let later = loose_items_over rest in
    grind (arith, loose_item_with, of_item_summary, or_assoc, later)

-- a list's children, ignoring its items, and with them
pub without_items-summary : (children : Forest) → Summary.without_items
    (summary_over children empty_summary)
    ≡ written.is_loose_without_items children
without_items-summary children = grind (arith, without_over, and-true, without-same)

pub with_items-summary : (children : Forest) → (Summary.without_items
    (summary_over children empty_summary)
    || Summary.has_loose_item (summary_over children empty_summary)) ≡ written.is_loose children
with_items-summary children = grind (arith, without_items-summary, loose_items_over, items-same)

pub of_item-summary : (children : Forest) → Summary.of_item (summary_over children empty_summary)
    ≡ written.is_loose_item children
of_item-summary children = of_item_summary children ∙ item-same children

-- a value's children
pub alignment-summary : (children : Forest) →
    alignment (summary_over children empty_summary) ≡ alignment_of children
alignment-summary children = grind (arith, begins_over, marker_over)
