-- The content that each place of a document allows, by names and a few texts. Only proofs use it:
-- each document of the grammar is built so.
use Rattle.std.specs.Prelude.{ℕ, ◌≤◌, Bool, true, false, ◌&&◌, ◌||◌, nat_le, if◌then◌else◌, IsTrue}
use Rattle.std.specs.Prelude.{List}
use Rattle.std.specs.Option.{option_map_or}
use Rattle.std.specs.List.{list_all, list_any}
use Rattle.md_base.specs.declared.event.Name.{Name}
use Rattle.md_base.specs.declared.event.Name.TheVariants as name_variants
use name_variants.{LineEnding, BlankLineEnding, Data, CharacterEscapeValue}
use name_variants.{CharacterReferenceMarker, CharacterReferenceMarkerNumeric}
use name_variants.{CharacterReferenceMarkerHexadecimal, CharacterReferenceValue, CodeText}
use name_variants.{CodeTextData, MathText, MathTextData, HtmlText, HtmlTextData, Emphasis, Strong}
use name_variants.{GfmStrikethrough, Link, Image, Label, LabelText, Resource}
use name_variants.{ResourceDestinationString, ResourceTitleString, ReferenceString, GfmFootnoteCall}
use name_variants.{AutolinkEmail, AutolinkProtocol, GfmAutolinkLiteralEmail}
use name_variants.{GfmAutolinkLiteralMailto, GfmAutolinkLiteralProtocol, GfmAutolinkLiteralWww}
use name_variants.{GfmAutolinkLiteralXmpp, HardBreakEscape, HardBreakTrailing, GfmTaskListItemCheck}
use name_variants.{GfmTaskListItemValueChecked, CodeFenced, CodeFencedFence, CodeFencedFenceInfo}
use name_variants.{CodeFencedFenceMeta, CodeFlowChunk, MathFlow, MathFlowFence, MathFlowFenceMeta}
use name_variants.{MathFlowChunk, DefinitionLabelString, DefinitionDestinationString}
use name_variants.{DefinitionTitleString, GfmFootnoteDefinitionLabelString}
use name_variants.{GfmFootnoteDefinitionPrefix, Definition, HeadingAtx, HeadingAtxSequence}
use name_variants.{ListOrdered}
use Rattle.md_base.specs.declared.event.Point.{Point}
use Rattle.md_text.specs.Laws.{is_line_ends}
use Rattle.md_base.specs.Place.{fits}
use Rattle.md_base.specs.Tree.{Forest, Empty, Node}
use Rattle.md_base.specs.NameTests.{is_transparent}
use Rattle.md_base.specs.Children.{spine_names}
use Rattle.md_tree.specs.Rules.{place, columns}
use Rattle.md_meaning.specs.Meaning.At.{text_in}
use Rattle.md_meaning.specs.Meaning.Finds.{first_named, number_in_list}

-- the kinds of content: blocks and all that prints whole elements; spans; strings; the first fence
-- of code, or of math, and what follows it; in a first fence the language, or the rest after it; in
-- a task the mark that it is done; nothing; targets and labels of links and footnotes
pub data Content : Type 0 where
  Blocks : Content
  Spans : Content
  Strings : Content
  FirstFence : Content
  FirstMathFence : Content
  Chunks : Content
  InfoAndMeta : Content
  MetaAlone : Content
  Done : Content
  Nothing : Content
  Sources : Content

abbrev pub is_string : Name → Bool
is_string LineEnding = true
is_string Data = true
is_string CharacterEscapeValue = true
is_string CharacterReferenceMarker = true
is_string CharacterReferenceMarkerNumeric = true
is_string CharacterReferenceMarkerHexadecimal = true
is_string CharacterReferenceValue = true
is_string CodeTextData = true
is_string MathTextData = true
is_string _ = false

abbrev pub is_span : Name → Bool
is_span HtmlText = true
is_span HtmlTextData = true
is_span Emphasis = true
is_span Strong = true
is_span GfmStrikethrough = true
is_span CodeText = true
is_span MathText = true
is_span Link = true
is_span Image = true
is_span HardBreakEscape = true
is_span HardBreakTrailing = true
is_span GfmTaskListItemCheck = true
is_span GfmFootnoteCall = true
is_span _ = false

-- a child of a link, an image or a call
abbrev pub is_in_media : Name → Bool
is_in_media Label = true
is_in_media LabelText = true
is_in_media Resource = true
is_in_media ReferenceString = true
is_in_media _ = false

abbrev pub is_autolink : Name → Bool
is_autolink AutolinkEmail = true
is_autolink AutolinkProtocol = true
is_autolink GfmAutolinkLiteralEmail = true
is_autolink GfmAutolinkLiteralMailto = true
is_autolink GfmAutolinkLiteralProtocol = true
is_autolink GfmAutolinkLiteralWww = true
is_autolink GfmAutolinkLiteralXmpp = true
is_autolink _ = false

abbrev pub is_fence : Name → Bool
is_fence CodeFencedFence = true
is_fence MathFlowFence = true
is_fence _ = false

abbrev pub is_code_fence : Name → Bool
is_code_fence CodeFencedFence = true
is_code_fence _ = false

abbrev pub is_math_fence : Name → Bool
is_math_fence MathFlowFence = true
is_math_fence _ = false

abbrev pub is_meta : Name → Bool
is_meta CodeFencedFenceMeta = true
is_meta MathFlowFenceMeta = true
is_meta _ = false

abbrev pub is_info : Name → Bool
is_info CodeFencedFenceInfo = true
is_info _ = false

abbrev pub is_done : Name → Bool
is_done GfmTaskListItemValueChecked = true
is_done _ = false

abbrev pub is_line : Name → Bool
is_line LineEnding = true
is_line BlankLineEnding = true
is_line CodeFlowChunk = true
is_line MathFlowChunk = true
is_line _ = false

-- a name that prints a part of a tag
abbrev pub is_part : Name → Bool
is_part CodeFencedFence = true
is_part MathFlowFence = true
is_part CodeFencedFenceInfo = true
is_part GfmTaskListItemValueChecked = true
is_part _ = false

-- targets and labels of links and footnotes: strings that occur only in a resource or a definition,
-- whose text isn't printed
abbrev pub is_source : Name → Bool
is_source DefinitionLabelString = true
is_source DefinitionDestinationString = true
is_source DefinitionTitleString = true
is_source GfmFootnoteDefinitionLabelString = true
is_source ResourceDestinationString = true
is_source ResourceTitleString = true
is_source _ = false

abbrev pub is_ending : Name → Bool
is_ending LineEnding = true
is_ending _ = false

-- a content allows a name that isn't transparent
abbrev pub may_stand : Content → Name → Bool
may_stand Blocks name = if is_part name || is_source name then false else true
may_stand Spans name = is_string name || (is_span name || (is_in_media name || is_autolink name))
may_stand Strings name = is_string name
may_stand FirstFence name = is_code_fence name
may_stand FirstMathFence name = is_math_fence name
may_stand Chunks name = is_line name || is_fence name
may_stand InfoAndMeta name = is_info name || is_meta name
may_stand MetaAlone name = is_meta name
may_stand Done name = is_done name
may_stand Nothing name = false
may_stand Sources name = is_source name || is_ending name

-- the content of a first fence, and of another
abbrev pub in_fence : Name → Content → Content
in_fence CodeFencedFence FirstFence = InfoAndMeta
in_fence MathFlowFence FirstMathFence = MetaAlone
in_fence _ _ = Nothing

-- the content of a node that isn't transparent
abbrev pub content_of : Name → Content → Content
content_of Image content = Spans
content_of Resource content = Sources
content_of Definition content = Sources
content_of GfmFootnoteDefinitionPrefix content = Sources
content_of CodeText content = Strings
content_of MathText content = Strings
content_of DefinitionLabelString content = Strings
content_of DefinitionDestinationString content = Strings
content_of DefinitionTitleString content = Strings
content_of GfmFootnoteDefinitionLabelString content = Strings
content_of ResourceDestinationString content = Strings
content_of ResourceTitleString content = Strings
content_of ReferenceString content = Strings
content_of CodeFencedFenceInfo content = Strings
content_of CodeFencedFenceMeta content = Strings
content_of MathFlowFenceMeta content = Strings
content_of CodeFenced content = FirstFence
content_of MathFlow content = FirstMathFence
content_of CodeFencedFence content = in_fence CodeFencedFence content
content_of MathFlowFence content = in_fence MathFlowFence content
content_of GfmTaskListItemCheck content = Done
content_of LineEnding content = Nothing
content_of BlankLineEnding content = Nothing
content_of CodeFlowChunk content = Nothing
content_of MathFlowChunk content = Nothing
content_of GfmTaskListItemValueChecked content = Nothing
content_of _ content = content

abbrev pub content_inside : Content → Name → Content
content_inside content name = if is_transparent name then content else content_of name content

-- the content allowed after a name that isn't transparent
abbrev pub content_past : Content → Name → Content
content_past FirstFence name = Chunks
content_past FirstMathFence name = Chunks
content_past InfoAndMeta name = if is_info name then MetaAlone else Nothing
content_past MetaAlone name = Nothing
content_past Done name = Nothing
content_past content name = content

-- the content allowed after some nodes
abbrev pub content_after : Content → Forest → Content
content_after content Empty = content
content_after content (Node name start end children rest) =
    content_after (if is_transparent name then content_after content children
    else content_past content name) rest

abbrev pub content_after_node : Content → Name → Forest → Content
content_after_node content name children =
    if is_transparent name then content_after content children else content_past content name

-- a decimal digit
abbrev pub is_digit : ℕ → Bool
is_digit byte = nat_le 48 byte && nat_le byte 57

-- the length of a heading's first mark
abbrev pub rank_in : Forest → ℕ
rank_in children = option_map_or (λ place. columns place.start place.end)
    (first_named HeadingAtxSequence children) 0

-- the other conditions on a node: the text of a line ending is one; a heading's rank is 1 to 6; a
-- list's number has only digits; a raw flow has a fence
abbrev pub IsFit : List ℕ → Name → Point → Point → Forest → Type 0
IsFit bytes LineEnding start end children = IsTrue (is_line_ends (text_in bytes (place start end)))
IsFit bytes BlankLineEnding start end children =
    IsTrue (is_line_ends (text_in bytes (place start end)))
IsFit bytes HeadingAtx start end children = (1 ≤ rank_in children) × (rank_in children ≤ 6)
    × IsTrue (option_map_or (λ place. fits bytes place.start place.end)
    (first_named HeadingAtxSequence children) true)
IsFit bytes ListOrdered start end children =
    IsTrue (option_map_or (λ place. list_all is_digit (text_in bytes place))
    (number_in_list children) true)
IsFit bytes CodeFenced start end children = IsTrue (list_any is_fence (spine_names children))
IsFit bytes MathFlow start end children = IsTrue (list_any is_fence (spine_names children))
IsFit bytes _ start end children = Unit {0}

-- some nodes are built of what a content allows
abbrev pub IsBuilt : List ℕ → Content → Forest → Type 0
IsBuilt bytes content Empty = Unit {0}
IsBuilt bytes content (Node name start end children rest) =
    IsTrue (is_transparent name || may_stand content name)
    × IsFit bytes name start end children
    × IsBuilt bytes (content_inside content name) children
    × IsBuilt bytes (content_after_node content name children) rest
