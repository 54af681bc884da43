-- Definitions of links at the beginning of a paragraph (4.7). A text is what is left of the
-- paragraph's lines (`Texts` of md_lines).
use Rattle.std.specs.Prelude.{ℕ, Bool, Option, List, [], ◌∷◌, ◌-◌, ◌==◌, ◌&&◌, not, Some, None}
use Rattle.std.specs.Prelude.{zero, suc, length, map, if◌then◌else◌}
use Rattle.std.specs.List.{join_with_byte, flat_map}
use Rattle.std.specs.Str.{is_utf8}
use Rattle.md_base.specs.Identifier.{normalized}
use Rattle.md_lines.specs.Texts.{Part, is_none, begins_with, begins_with_space, after_next}
use Rattle.md_lines.specs.Texts.{after_spaces, after_line_end}
use Rattle.md_blocks.specs.Entries.{Line}
use Rattle.md_lines.specs.LinkParts.{Destination, label_at, destination_at, title_at}

-- a definition, and the lines after it
pub record Definition : Type 0 where
  pub label : List (List ℕ)
  pub destination : List ℕ
  pub title : Option (List (List ℕ))
  pub rest : List (List ℕ)

-- a text in which NUL is U+FFFD
abbrev pub printed : List ℕ → List ℕ
printed text = flat_map (λ byte. if byte == 0 then 239 ∷ 191 ∷ 189 ∷ [] else byte ∷ []) text

-- the form in which texts are compared; by the parser's own rule one that isn't UTF-8 has none
abbrev pub text_form : List ℕ → Option (List ℕ)
text_form text = if is_utf8 text then Some (normalized text) else None

-- the form in which labels are compared: that of its lines, with a line feed between two
abbrev pub label_form : List (List ℕ) → Option (List ℕ)
label_form label = text_form (printed (join_with_byte 10 label))

-- what follows a label
pub record Target : Type 0 where
  pub destination : List ℕ
  pub title : Option (List (List ℕ))
  pub rest : List (List ℕ)

-- the end of a definition without a title: nothing but spaces and tabs in the destination's line
abbrev pub without_title : List ℕ → List (List ℕ) → Option Target
without_title destination text = elim (after_line_end text) [
  | None ↦ None
  | Some rest ↦ Some (record { destination = destination; title = None; rest = rest })
]

-- its end with a title, after which its line has nothing but spaces and tabs
abbrev pub with_title : List ℕ → Option Part → Option Target
with_title destination title = elim title [
  | None ↦ None
  | Some title ↦ elim (after_line_end title.rest) [
    | None ↦ None
    | Some rest ↦
        Some (record { destination = destination; title = Some title.text; rest = rest })
  ]
]

-- the first of two that there is
abbrev pub first_of : Option Target → Option Target → Option Target
first_of one other = elim one [ None ↦ other | Some target ↦ Some target ]

-- the text after a destination: a title after spaces, tabs and at most one line ending, or else the
-- end of the line; what looks like a title and is none may stand in the next line
abbrev pub titled : List ℕ → List (List ℕ) → Option Target
titled destination text =
    first_of (if begins_with_space text then with_title destination (title_at (after_spaces text))
    else None) (without_title destination text)

-- a destination, which may be empty only in angle brackets, and the text after it
abbrev pub target_after : Bool → Option Destination → List (List ℕ) → Option Target
target_after is_pointed found lines = elim found [
  | None ↦ None
  | Some found ↦
      if is_none found.text && not is_pointed then None
      else titled found.text (found.rest ∷ lines)
]

abbrev pub target_in : List (List ℕ) → Option Target
target_in text = elim text [
  | [] ↦ None
  | line ∷ lines ↦ target_after (begins_with 60 (line ∷ lines)) (destination_at line) lines
]

-- the text after a label: a colon, spaces, tabs and at most one line ending, and the rest of the
-- definition
abbrev pub target_at : List (List ℕ) → Option Target
target_at text =
    if begins_with 58 text then target_in (after_spaces (after_next text)) else None

-- the definition with a label of some form and what follows the label
abbrev pub with_form : Part → Target → Option (List ℕ) → Option Definition
with_form label target form = elim form [
  | None ↦ None
  | Some _ ↦ Some (record {
    label = label.text;
    destination = target.destination;
    title = target.title;
    rest = target.rest;
  })
]

abbrev pub definition_of : Part → Option Target → Option Definition
definition_of label target = elim target [
  | None ↦ None
  | Some target ↦ with_form label target (label_form label.text)
]

abbrev pub definition_after : Option Part → Option Definition
definition_after label = elim label [
  | None ↦ None
  | Some label ↦ definition_of label (target_at label.rest)
]

-- the definition that begins a text: a label in brackets, and what follows it
abbrev pub definition_at : List (List ℕ) → Option Definition
definition_at text = if begins_with 91 text then definition_after (label_at (after_next text)) else None

-- how many lines the definition that begins a text has; 0 if there is none
abbrev pub definition_length : List (List ℕ) → ℕ
definition_length text = elim (definition_at text) [
  | None ↦ 0
  | Some definition ↦ length text - length definition.rest
]

-- how many lines at the beginning of a text are definitions, one after another, if so many are
-- the rest of the definition before it
abbrev pub defined_from : ℕ → List (List ℕ) → ℕ
defined_from left [] = 0
defined_from (suc left) (line ∷ lines) = suc (defined_from left lines)
defined_from zero (line ∷ lines) =
    let count = definition_length (line ∷ lines) in
    if count == 0 then 0 else suc (defined_from (count - 1) lines)

-- how many of a paragraph's first lines are definitions
abbrev pub defined_lines : List Line → ℕ
defined_lines lines = defined_from 0 (map (λ line. line.text) lines)
