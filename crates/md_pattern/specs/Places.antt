-- The progress in reading spines, as row numbers of a table.
use Rattle.std.specs.Prelude.{◌≡◌, ℕ, ◌+◌, ◌-◌, Bool, true, ◌==◌, ◌&&◌, ◌||◌, nat_le, if◌then◌else◌}
use Rattle.std.specs.Prelude.{Option, Some, None, option_map, List, [], ◌∷◌, map, drop}
use Rattle.std.specs.List.{list_all}
use Rattle.std.specs.Prelude.{get_or}
use Rattle.md_pattern.specs.declared.kinds.Symbol.{Symbol}
use Rattle.md_pattern.specs.declared.kinds.Symbol.TheVariants as symbol
use Rattle.md_pattern.specs.declared.kinds.Role.{Role}
use Rattle.md_pattern.specs.declared.kinds.Role.TheVariants as role
use Rattle.md_pattern.specs.declared.state.Stage.{Stage}
use Rattle.md_pattern.specs.declared.state.Stage.TheVariants.{Whole, Marker, Numeric, Hexadecimal}
use Rattle.md_pattern.specs.declared.state.Stage.TheVariants.{Setext}
use Rattle.md_pattern.specs.declared.state.State.{State}
use Rattle.md_pattern.specs.Pattern.{pattern_of}
use Rattle.md_pattern.specs.Steps.{moved, is_complete}
use Rattle.md_pattern.specs.declared.spine_state.SpineState.{SpineState}

-- the progress in reading the spine of a node with a role, without its last symbol
pub record At : Type 0 where
  pub role : Role
  pub position : ℕ
  pub stage : Stage

-- the same with the last symbol
abbrev pub state_at : At → Option Symbol → State
state_at place before =
    record { role = place.role; before = before; position = place.position; stage = place.stage }

-- the place on a spine after a symbol
abbrev pub moved_from : At → Symbol → Option At
moved_from place seen =
    option_map (λ next. record { role = place.role; position = next.0; stage = next.1 })
    (moved place.stage place.position (drop place.position (pattern_of place.role)) seen)

abbrev pub at : Role → ℕ → Stage → At
at role position stage = record { role = role; position = position; stage = stage }

-- The rest is the table: public contracts use it only through `state_of`.

-- the places that spines reach, in the order of their rows
unfoldable pub places : List At
places =
    at role.Flow 0 Whole ∷ at role.Flow 0 Marker ∷ at role.Flow 0 Numeric ∷
    at role.Flow 0 Hexadecimal ∷ at role.Flow 0 Setext ∷ at role.FootnoteDefinition 0 Whole ∷
    at role.FootnoteDefinition 1 Whole ∷ at role.FootnoteDefinition 1 Marker ∷
    at role.FootnoteDefinition 1 Numeric ∷ at role.FootnoteDefinition 1 Hexadecimal ∷
    at role.FootnoteDefinition 1 Setext ∷ at role.FootnotePrefix 0 Whole ∷
    at role.FootnotePrefix 1 Whole ∷ at role.OrderedList 0 Whole ∷ at role.OrderedList 1 Whole ∷
    at role.UnorderedList 0 Whole ∷ at role.UnorderedList 1 Whole ∷
    at role.FirstOrderedItem 0 Whole ∷ at role.FirstOrderedItem 1 Whole ∷
    at role.FirstOrderedItem 1 Marker ∷ at role.FirstOrderedItem 1 Numeric ∷
    at role.FirstOrderedItem 1 Hexadecimal ∷ at role.FirstOrderedItem 1 Setext ∷
    at role.OrderedItem 0 Whole ∷ at role.OrderedItem 1 Whole ∷ at role.OrderedItem 1 Marker ∷
    at role.OrderedItem 1 Numeric ∷ at role.OrderedItem 1 Hexadecimal ∷
    at role.OrderedItem 1 Setext ∷ at role.Item 0 Whole ∷ at role.Item 1 Whole ∷
    at role.Item 1 Marker ∷ at role.Item 1 Numeric ∷ at role.Item 1 Hexadecimal ∷
    at role.Item 1 Setext ∷ at role.FirstOrderedPrefix 0 Whole ∷
    at role.FirstOrderedPrefix 1 Whole ∷ at role.FirstOrderedPrefix 2 Whole ∷
    at role.OrderedPrefix 0 Whole ∷ at role.OrderedPrefix 1 Whole ∷ at role.OrderedPrefix 2 Whole ∷
    at role.Prefix 0 Whole ∷ at role.Prefix 1 Whole ∷ at role.Phrasing 0 Whole ∷
    at role.Phrasing 0 Marker ∷ at role.Phrasing 0 Numeric ∷ at role.Phrasing 0 Hexadecimal ∷
    at role.Heading 0 Whole ∷ at role.Heading 1 Whole ∷ at role.CodeIndented 0 Whole ∷
    at role.CodeFenced 0 Whole ∷ at role.CodeFenced 1 Whole ∷ at role.CodeFenced 3 Whole ∷
    at role.FirstCodeFence 0 Whole ∷ at role.FirstCodeFence 1 Whole ∷
    at role.FirstCodeFence 2 Whole ∷ at role.CodeFence 0 Whole ∷ at role.Math 0 Whole ∷
    at role.Math 1 Whole ∷ at role.Math 3 Whole ∷ at role.FirstMathFence 0 Whole ∷
    at role.FirstMathFence 1 Whole ∷ at role.MathFence 0 Whole ∷ at role.CodeText 0 Whole ∷
    at role.MathText 0 Whole ∷ at role.HtmlFlow 0 Whole ∷ at role.HtmlText 0 Whole ∷
    at role.Media 0 Whole ∷ at role.Media 1 Whole ∷ at role.Media 2 Whole ∷
    at role.FootnoteCall 0 Whole ∷ at role.FootnoteCall 1 Whole ∷ at role.Label 0 Whole ∷
    at role.Label 2 Whole ∷ at role.Label 0 Marker ∷ at role.Label 0 Numeric ∷
    at role.Label 0 Hexadecimal ∷ at role.Label 2 Marker ∷ at role.Label 2 Numeric ∷
    at role.Label 2 Hexadecimal ∷ at role.CallLabel 0 Whole ∷ at role.CallLabel 2 Whole ∷
    at role.CallLabel 0 Marker ∷ at role.CallLabel 0 Numeric ∷ at role.CallLabel 0 Hexadecimal ∷
    at role.CallLabel 2 Marker ∷ at role.CallLabel 2 Numeric ∷ at role.CallLabel 2 Hexadecimal ∷
    at role.Resource 0 Whole ∷ at role.Resource 2 Whole ∷ at role.Resource 4 Whole ∷
    at role.Definition 0 Whole ∷ at role.Definition 1 Whole ∷ at role.Definition 3 Whole ∷
    at role.Definition 5 Whole ∷ at role.String 0 Whole ∷ at role.String 0 Marker ∷
    at role.String 0 Numeric ∷ at role.String 0 Hexadecimal ∷ at role.Table 0 Whole ∷
    at role.Table 1 Whole ∷ at role.Table 3 Whole ∷ at role.TableHead 0 Whole ∷
    at role.TableHead 1 Whole ∷ at role.TableHead 3 Whole ∷ at role.TableBody 0 Whole ∷
    at role.TableRow 0 Whole ∷ at role.TableDelimiterRow 0 Whole ∷
    at role.TableDelimiterValue 0 Whole ∷ at role.TaskCheck 0 Whole ∷ at role.TaskCheck 1 Whole ∷
    at role.Frontmatter 0 Whole ∷ at role.Empty 0 Whole ∷ at role.Childless 0 Whole ∷ []

-- the symbols, in declaration order
unfoldable pub symbols : List Symbol
symbols =
    symbol.Text ∷ symbol.LineEnding ∷ symbol.BlankLineEnding ∷ symbol.ReferenceMarker ∷
    symbol.ReferenceNumeric ∷ symbol.ReferenceHexadecimal ∷ symbol.ReferenceValue ∷ symbol.Span ∷
    symbol.Block ∷ symbol.SetextText ∷ symbol.SetextUnderline ∷ symbol.FootnotePrefix ∷
    symbol.FootnoteLabel ∷ symbol.ListItem ∷ symbol.ListItemPrefix ∷ symbol.ListItemValue ∷
    symbol.ListItemMarker ∷ symbol.HeadingSequence ∷ symbol.HeadingText ∷ symbol.CodeFlowChunk ∷
    symbol.CodeFence ∷ symbol.CodeInfo ∷ symbol.CodeMeta ∷ symbol.MathFlowChunk ∷ symbol.MathFence ∷
    symbol.MathMeta ∷ symbol.CodeTextData ∷ symbol.MathTextData ∷ symbol.HtmlFlowData ∷
    symbol.HtmlTextData ∷ symbol.Label ∷ symbol.LabelText ∷ symbol.Resource ∷
    symbol.ReferenceString ∷ symbol.ResourceDestination ∷ symbol.ResourceTitle ∷
    symbol.DefinitionLabel ∷ symbol.DefinitionDestination ∷ symbol.DefinitionTitle ∷
    symbol.TableHead ∷ symbol.TableBody ∷ symbol.TableRow ∷ symbol.TableCell ∷
    symbol.TableDelimiterRow ∷ symbol.TableDelimiterValue ∷ symbol.TableDelimiterMarker ∷
    symbol.TaskChecked ∷ []

-- the roles, in declaration order
unfoldable pub all_roles : List Role
all_roles =
    role.Flow ∷ role.FootnoteDefinition ∷ role.FootnotePrefix ∷ role.OrderedList ∷
    role.UnorderedList ∷ role.FirstOrderedItem ∷ role.OrderedItem ∷ role.Item ∷
    role.FirstOrderedPrefix ∷ role.OrderedPrefix ∷ role.Prefix ∷ role.Phrasing ∷ role.Heading ∷
    role.CodeIndented ∷ role.CodeFenced ∷ role.FirstCodeFence ∷ role.CodeFence ∷ role.Math ∷
    role.FirstMathFence ∷ role.MathFence ∷ role.CodeText ∷ role.MathText ∷ role.HtmlFlow ∷
    role.HtmlText ∷ role.Media ∷ role.FootnoteCall ∷ role.Label ∷ role.CallLabel ∷ role.Resource ∷
    role.Definition ∷ role.String ∷ role.Table ∷ role.TableHead ∷ role.TableBody ∷ role.TableRow ∷
    role.TableDelimiterRow ∷ role.TableDelimiterValue ∷ role.TaskCheck ∷ role.Frontmatter ∷
    role.Empty ∷ role.Childless ∷ []

-- the place of a row
abbrev pub place_at : ℕ → At
place_at number = get_or places number (at role.Childless 0 Whole)

-- the progress that the code's place encodes, with the last symbol
abbrev pub state_of : SpineState → Option Symbol → State
state_of place before = state_at (place_at place.number) before

-- a letter in a row: no place, or a place relative to this row
abbrev pub decoded : ℕ → ℕ → Option At
decoded number letter = if letter == 46 then None else Some (place_at (number + letter - 109))

-- the places that the rows from this number encode
unfoldable pub decoded_from : ℕ → List (List ℕ) → List (List (Option At))
decoded_from number [] = []
decoded_from number (row ∷ rows) = map (λ letter. decoded number letter) row ∷ decoded_from
    (number + 1) rows

-- the places that a row must encode
abbrev pub moves : At → List (Option At)
moves place = map (λ seen. moved_from place seen) symbols

-- a letter encodes a row
abbrev pub encodes_row : ℕ → ℕ → Bool
encodes_row number letter =
    letter == 46 || (nat_le letter 122 && nat_le 109 (number + letter))

unfoldable pub encodes_rows_from : ℕ → List (List ℕ) → Bool
encodes_rows_from number [] = true
encodes_rows_from number (row ∷ rows) =
    list_all (λ letter. encodes_row number letter) row && encodes_rows_from (number + 1) rows

-- each row encodes the places after each symbol
pub record AreRows (rows : List (List ℕ)) : Type 0 where
  pub decodes : decoded_from 0 rows ≡ map (λ place. moves place) places
  pub encodes : encodes_rows_from 0 rows ≡ true

-- each place has a letter that says whether a spine may end there
abbrev pub AreEnds : List ℕ → Type 0
AreEnds letters =
    map (λ letter. letter == 101) letters ≡ map (λ place. is_complete (state_at place None)) places

-- the row in which the spine of each role begins
abbrev pub AreStarts : List ℕ → Type 0
AreStarts rows = map (λ row. place_at row) rows ≡ map (λ role. at role 0 Whole) all_roles

-- the roles of the places
abbrev pub AreRoles : List Role → Type 0
AreRoles roles = roles ≡ map (λ place. place.role) places
