-- Patterns of spines: the symbols that may occur on the spine of a node, and their order.
use Rattle.std.specs.Prelude.{◌≡◌, ℕ, ◌≤◌, Bool, List, [], ◌∷◌, ◌++◌, length, IsTrue}
use Rattle.std.specs.List.{list_any, list_all}
use denote.Enum.Bare.{sameb}
use Rattle.md_pattern.specs.contracts.kinds.Symbol.{the_type}
use Rattle.md_pattern.specs.declared.kinds.Symbol.{Symbol}
use Rattle.md_pattern.specs.declared.kinds.Symbol.TheVariants as symbol_variants
use symbol_variants.{Text, ReferenceMarker, LineEnding, Span, Block, SetextText, BlankLineEnding}
use symbol_variants.{FootnotePrefix, FootnoteLabel, ListItem, ListItemPrefix, ListItemValue}
use symbol_variants.{ListItemMarker, HeadingSequence, HeadingText, CodeFlowChunk, CodeFence}
use symbol_variants.{CodeInfo, CodeMeta, MathFence, MathFlowChunk, MathMeta, CodeTextData}
use symbol_variants.{MathTextData, HtmlFlowData, HtmlTextData, Label, Resource, ReferenceString}
use symbol_variants.{LabelText, ResourceDestination, ResourceTitle, DefinitionLabel}
use symbol_variants.{DefinitionDestination, DefinitionTitle, TableHead, TableBody, TableRow}
use symbol_variants.{TableDelimiterRow, TableCell, TableDelimiterValue, TableDelimiterMarker}
use symbol_variants.{TaskChecked}
use Rattle.md_pattern.specs.declared.kinds.Role.{Role}
use Rattle.md_pattern.specs.declared.kinds.Role.TheVariants as role
use Rattle.md_pattern.specs.declared.kinds.Class.{Class}
use Rattle.md_pattern.specs.declared.kinds.Class.TheVariants.{String, Phrasing, Flow, Only, Either}
use Rattle.md_pattern.specs.declared.kinds.Class.TheVariants.{OrLine}
use Rattle.md_pattern.specs.declared.kinds.Item.{Item}
use Rattle.md_pattern.specs.declared.kinds.Item.TheVariants.{Once, Maybe, Many}

-- the symbols of a class
abbrev pub members : Class → List Symbol
members String = Text ∷ ReferenceMarker ∷ LineEnding ∷ []
members Phrasing = Span ∷ Text ∷ ReferenceMarker ∷ LineEnding ∷ []
members Flow =
    Block ∷ SetextText ∷ BlankLineEnding ∷ Span ∷ Text ∷ ReferenceMarker ∷ LineEnding ∷ []
members (Only one) = one ∷ []
members (Either one other) = one ∷ other ∷ []
members (OrLine one) = one ∷ LineEnding ∷ BlankLineEnding ∷ []

-- a symbol is in a class
abbrev pub takes : Class → Symbol → Bool
takes class seen = list_any (λ member. sameb the_type member seen) (members class)

-- the pattern of each role, item by item: one symbol of a class, at most one, or any number
abbrev pub pattern_of : Role → List Item
pattern_of role.Flow = Many Flow ∷ []
pattern_of role.FootnoteDefinition = Once (Only FootnotePrefix) ∷ Many Flow ∷ []
pattern_of role.FootnotePrefix = Once (Only FootnoteLabel) ∷ []
pattern_of role.OrderedList = Once (Only ListItem) ∷ Many (OrLine ListItem) ∷ []
pattern_of role.UnorderedList = Once (Only ListItem) ∷ Many (OrLine ListItem) ∷ []
pattern_of role.FirstOrderedItem = Once (Only ListItemPrefix) ∷ Many Flow ∷ []
pattern_of role.OrderedItem = Once (Only ListItemPrefix) ∷ Many Flow ∷ []
pattern_of role.Item = Once (Only ListItemPrefix) ∷ Many Flow ∷ []
pattern_of role.FirstOrderedPrefix = Maybe (Only ListItemValue) ∷ Once (Only ListItemMarker) ∷ []
pattern_of role.OrderedPrefix = Maybe (Only ListItemValue) ∷ Once (Only ListItemMarker) ∷ []
pattern_of role.Prefix = Once (Only ListItemMarker) ∷ []
pattern_of role.Phrasing = Many Phrasing ∷ []
pattern_of role.Heading =
    Once (Only HeadingSequence) ∷ Many (Either HeadingSequence HeadingText) ∷ []
pattern_of role.CodeIndented = Many (OrLine CodeFlowChunk) ∷ []
pattern_of role.CodeFenced =
    Once (Only CodeFence) ∷ Many (OrLine CodeFlowChunk) ∷ Maybe (Only CodeFence) ∷ []
pattern_of role.FirstCodeFence = Maybe (Only CodeInfo) ∷ Maybe (Only CodeMeta) ∷ []
pattern_of role.Math =
    Once (Only MathFence) ∷ Many (OrLine MathFlowChunk) ∷ Maybe (Only MathFence) ∷ []
pattern_of role.FirstMathFence = Maybe (Only MathMeta) ∷ []
pattern_of role.CodeText = Many (Either CodeTextData LineEnding) ∷ []
pattern_of role.MathText = Many (Either MathTextData LineEnding) ∷ []
pattern_of role.HtmlFlow = Many (OrLine HtmlFlowData) ∷ []
pattern_of role.HtmlText = Many (Either HtmlTextData LineEnding) ∷ []
pattern_of role.Media = Once (Only Label) ∷ Maybe (Either Resource ReferenceString) ∷ []
pattern_of role.FootnoteCall = Once (Only Label) ∷ []
pattern_of role.Label = Many Phrasing ∷ Maybe (Only LabelText) ∷ Many Phrasing ∷ []
pattern_of role.CallLabel = Many Phrasing ∷ Once (Only LabelText) ∷ Many Phrasing ∷ []
pattern_of role.Resource =
    Many (Only LineEnding) ∷ Maybe (Only ResourceDestination) ∷ Many (Only LineEnding)
    ∷ Maybe (Only ResourceTitle) ∷ Many (Only LineEnding) ∷ []
pattern_of role.Definition = Once (Only DefinitionLabel) ∷ Many (Only LineEnding)
    ∷ Maybe (Only DefinitionDestination)
    ∷ Many (Only LineEnding) ∷ Maybe (Only DefinitionTitle) ∷ Many (Only LineEnding) ∷ []
pattern_of role.String = Many String ∷ []
pattern_of role.Table = Once (Only TableHead) ∷ Many (Only LineEnding) ∷ Maybe (Only TableBody)
    ∷ Many (Only LineEnding) ∷ []
pattern_of role.TableHead =
    Once (Only TableRow) ∷ Many (Only LineEnding) ∷ Once (Only TableDelimiterRow)
    ∷ Many (Only LineEnding) ∷ []
pattern_of role.TableBody = Many (Either TableRow LineEnding) ∷ []
pattern_of role.TableRow = Many (Only TableCell) ∷ []
pattern_of role.TableDelimiterRow = Many (Only TableDelimiterValue) ∷ []
pattern_of role.TableDelimiterValue = Many (Only TableDelimiterMarker) ∷ []
pattern_of role.TaskCheck = Maybe (Only TaskChecked) ∷ []
pattern_of role.Frontmatter = Many (Only LineEnding) ∷ []
pattern_of _ = []

-- the class of an item
abbrev pub class_of : Item → Class
class_of (Once class) = class
class_of (Maybe class) = class
class_of (Many class) = class

-- how many symbols an item may match
abbrev pub IsCount : Item → ℕ → Type 0
IsCount item count =
    elim item [ Once class ↦ count ≡ 1 | Maybe class ↦ count ≤ 1 | Many class ↦ Unit {0} ]

-- the symbols match the items of the pattern, in order
abbrev pub Fits : List Item → List Symbol → Type 0
Fits [] symbols = symbols ≡ []
Fits (item ∷ items) symbols = (own others : List Symbol) × (symbols ≡ own ++ others)
    × IsTrue (list_all (takes (class_of item)) own) × IsCount item (length own) × Fits items others
