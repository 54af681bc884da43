-- What is left of a leaf's text, as its lines without their endings: the first is what is left of
-- the line in which the reader is. So between two lines is one line ending, which no byte can be.
use Rattle.std.specs.Prelude.{ℕ, Bool, Option, List, [], ◌∷◌, ◌+◌, ◌-◌, ◌==◌, not, true, false, Some, None}
use Rattle.std.specs.Prelude.{drop, take, length, suc, nat_lt, option_map, if◌then◌else◌}
use Rattle.std.specs.List.{prefix_len}
use Rattle.md_lines.specs.Lines.{is_blank}
use Rattle.md_lines.specs.Escapes.{before_unescaped}

-- whether a list is empty
abbrev pub is_none : {A : Type 0} → List A → Bool
is_none xs = elim xs [ [] ↦ true | _ ∷ _ ↦ false ]

-- a line without the spaces and tabs at its beginning
abbrev pub unindented : List ℕ → List ℕ
unindented line = drop (prefix_len is_blank line) line

-- the next character, a line feed for a line ending; none at the end of the last line
abbrev pub next_in : List (List ℕ) → Option ℕ
next_in text = elim text [
  | [] ↦ None
  | line ∷ lines ↦ elim line [
    | [] ↦ if is_none lines then None else Some 10
    | byte ∷ _ ↦ Some byte
  ]
]

-- whether the next character is this byte of the line
abbrev pub begins_with : ℕ → List (List ℕ) → Bool
begins_with wanted text = elim text [
  | [] ↦ false
  | line ∷ _ ↦ elim line [ [] ↦ false | byte ∷ _ ↦ byte == wanted ]
]

-- the text after the next character
abbrev pub after_next : List (List ℕ) → List (List ℕ)
after_next text = elim text [
  | [] ↦ []
  | line ∷ lines ↦ elim line [
    | [] ↦ if is_none lines then [] ∷ [] else lines
    | _ ∷ rest ↦ rest ∷ lines
  ]
]

-- whether a space, a tab or a line ending comes next
abbrev pub begins_with_space : List (List ℕ) → Bool
begins_with_space text = elim text [
  | [] ↦ false
  | line ∷ lines ↦ elim line [ [] ↦ not (is_none lines) | byte ∷ _ ↦ is_blank byte ]
]

-- the text after spaces, tabs and line endings. In a paragraph no line is blank, so there is at
-- most one line ending among them
abbrev pub after_spaces : List (List ℕ) → List (List ℕ)
after_spaces [] = []
after_spaces (line ∷ []) = unindented line ∷ []
after_spaces (line ∷ next ∷ lines) =
    if is_none (unindented line) then after_spaces (next ∷ lines)
    else unindented line ∷ next ∷ lines

-- the lines after one that has only spaces and tabs left; none if it has more
abbrev pub after_line_end : List (List ℕ) → Option (List (List ℕ))
after_line_end text = elim text [
  | [] ↦ None
  | line ∷ lines ↦ if is_none (unindented line) then Some lines else None
]

-- a part of a text, and the text after it
pub record Part : Type 0 where
  pub text : List (List ℕ)
  pub rest : List (List ℕ)

abbrev pub with_line : List ℕ → Part → Part
with_line line part = record { text = line ∷ part.text; rest = part.rest }

-- the text before the first byte that passes a test and isn't escaped (6.1); the rest begins with
-- that byte
abbrev pub until : (ℕ → Bool) → List (List ℕ) → Option Part
until test [] = None
until test (line ∷ lines) =
    let count = before_unescaped test line in
    if nat_lt count (length line)
    then Some (record { text = take count line ∷ []; rest = drop count line ∷ lines })
    else option_map (with_line line) (until test lines)

-- how many characters a text has, if a line ending follows each line
abbrev pub size : List (List ℕ) → ℕ
size [] = 0
size (line ∷ lines) = suc (length line) + size lines

-- the text before what is left of it: so many lines, and a part of the next one
abbrev pub first_line : List (List ℕ) → List ℕ
first_line text = elim text [ [] ↦ [] | line ∷ _ ↦ line ]

abbrev pub text_before : List (List ℕ) → List (List ℕ) → List (List ℕ)
text_before [] rest = []
text_before (line ∷ lines) rest =
    if nat_lt (length rest) (suc (length lines)) then line ∷ text_before lines rest
    else take (length line - length (first_line rest)) line ∷ []
