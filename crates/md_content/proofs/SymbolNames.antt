-- A name for each symbol, which stands for all names that have it, and how a name stands on a
-- spine.
use Rattle.std.proofs.Common.{◌≡◌, Bool, true, false, if◌then◌else◌, Option, Some, None, refl}
use Rattle.md_base.specs.declared.event.Name.{Name}
use Rattle.md_base.specs.declared.event.Name.TheVariants as name
use Rattle.md_pattern.specs.declared.kinds.Symbol.{Symbol}
use Rattle.md_pattern.specs.declared.kinds.Symbol.TheVariants as symbol
use Rattle.md_pattern.specs.declared.kinds.Standing.{Standing}
use Rattle.md_pattern.specs.declared.kinds.Standing.TheVariants.{Through, Space, Solid}
use Rattle.md_pattern.specs.Standing.{standing_of}
use Rattle.md_base.specs.NameTests.{is_transparent}

abbrev pub name_of : Symbol → Name
name_of seen = elim seen [
  | symbol.Text ↦ name.Data
  | symbol.LineEnding ↦ name.LineEnding
  | symbol.BlankLineEnding ↦ name.BlankLineEnding
  | symbol.ReferenceMarker ↦ name.CharacterReferenceMarker
  | symbol.ReferenceNumeric ↦ name.CharacterReferenceMarkerNumeric
  | symbol.ReferenceHexadecimal ↦ name.CharacterReferenceMarkerHexadecimal
  | symbol.ReferenceValue ↦ name.CharacterReferenceValue
  | symbol.Span ↦ name.Emphasis
  | symbol.Block ↦ name.Paragraph
  | symbol.SetextText ↦ name.HeadingSetextText
  | symbol.SetextUnderline ↦ name.HeadingSetextUnderlineSequence
  | symbol.FootnotePrefix ↦ name.GfmFootnoteDefinitionPrefix
  | symbol.FootnoteLabel ↦ name.GfmFootnoteDefinitionLabelString
  | symbol.ListItem ↦ name.ListItem
  | symbol.ListItemPrefix ↦ name.ListItemPrefix
  | symbol.ListItemValue ↦ name.ListItemValue
  | symbol.ListItemMarker ↦ name.ListItemMarker
  | symbol.HeadingSequence ↦ name.HeadingAtxSequence
  | symbol.HeadingText ↦ name.HeadingAtxText
  | symbol.CodeFlowChunk ↦ name.CodeFlowChunk
  | symbol.CodeFence ↦ name.CodeFencedFence
  | symbol.CodeInfo ↦ name.CodeFencedFenceInfo
  | symbol.CodeMeta ↦ name.CodeFencedFenceMeta
  | symbol.MathFlowChunk ↦ name.MathFlowChunk
  | symbol.MathFence ↦ name.MathFlowFence
  | symbol.MathMeta ↦ name.MathFlowFenceMeta
  | symbol.CodeTextData ↦ name.CodeTextData
  | symbol.MathTextData ↦ name.MathTextData
  | symbol.HtmlFlowData ↦ name.HtmlFlowData
  | symbol.HtmlTextData ↦ name.HtmlTextData
  | symbol.Label ↦ name.Label
  | symbol.LabelText ↦ name.LabelText
  | symbol.Resource ↦ name.Resource
  | symbol.ReferenceString ↦ name.ReferenceString
  | symbol.ResourceDestination ↦ name.ResourceDestinationString
  | symbol.ResourceTitle ↦ name.ResourceTitleString
  | symbol.DefinitionLabel ↦ name.DefinitionLabelString
  | symbol.DefinitionDestination ↦ name.DefinitionDestinationString
  | symbol.DefinitionTitle ↦ name.DefinitionTitleString
  | symbol.TableHead ↦ name.GfmTableHead
  | symbol.TableBody ↦ name.GfmTableBody
  | symbol.TableRow ↦ name.GfmTableRow
  | symbol.TableCell ↦ name.GfmTableCell
  | symbol.TableDelimiterRow ↦ name.GfmTableDelimiterRow
  | symbol.TableDelimiterValue ↦ name.GfmTableDelimiterCellValue
  | symbol.TableDelimiterMarker ↦ name.GfmTableDelimiterMarker
  | symbol.TaskChecked ↦ name.GfmTaskListItemValueChecked
]

-- several names have these
abbrev pub is_shared : Symbol → Bool
is_shared seen =
    elim seen [ symbol.Text ↦ true | symbol.Span ↦ true | symbol.Block ↦ true | _ ↦ false ]

abbrev pub symbol_in : Standing → Option Symbol
symbol_in (Solid seen usual reading) = Some seen
symbol_in _ = None

-- the name that stands for the symbol of this one
abbrev pub name_for : Standing → Name → Name
name_for (Solid seen usual reading) n = name_of seen
name_for _ n = n

-- the same where a symbol has one name
abbrev pub known_name : Standing → Name → Name
known_name (Solid seen usual reading) n = if is_shared seen then n else name_of seen
known_name _ n = n

pub name-known : (n : Name) → known_name (standing_of n) n ≡ n
name-known name.Data = refl
name-known _ = refl

abbrev pub is_through : Standing → Bool
is_through standing = elim standing [ Through ↦ true | Space ↦ true | _ ↦ false ]

pub transparent : (n : Name) → is_transparent n ≡ is_through (standing_of n)
transparent name.Data = refl
transparent _ = refl
