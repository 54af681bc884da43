-- The parts of links and of their definitions, as CommonMark and GFM define them (6.3): labels,
-- destinations and titles. A text is what is left of a leaf, line by line (`Texts`).
use Rattle.std.specs.Prelude.{ℕ, Bool, Option, List, [], ◌∷◌, ◌-◌, ◌==◌, ◌&&◌, ◌||◌, not, false}
use Rattle.std.specs.Prelude.{Some, None, drop, take, suc, nat_lt, if◌then◌else◌}
use Rattle.std.specs.List.{list_all}
use Rattle.std.specs.Char.{is_ascii_punctuation}
use Rattle.md_lines.specs.Lines.{is_blank}
use Rattle.md_lines.specs.Escapes.{pointed_length, stops_title}
use Rattle.md_lines.specs.Texts.{Part, until, size, begins_with, after_next}

-- whether a byte is a square bracket
abbrev pub is_bracket : ℕ → Bool
is_bracket byte = byte == 91 || byte == 93

-- whether a text has only spaces, tabs and line endings
abbrev pub is_blank_label : List (List ℕ) → Bool
is_blank_label text = list_all (list_all is_blank) text

-- whether a text before a bracket is a label: that bracket closes it, it isn't blank, and by the
-- parser's own rule it has at most 999 bytes, where the specification counts characters
abbrev pub is_label : Part → Bool
is_label part =
    begins_with 93 part.rest && (nat_lt (size part.text) 1001 && not (is_blank_label part.text))

-- the label before a bracket, and the text after it
abbrev pub label_in : Option Part → Option Part
label_in found = elim found [
  | None ↦ None
  | Some part ↦
      if is_label part then Some (record { text = part.text; rest = after_next part.rest })
      else None
]

-- the label that begins a text, which begins after its `[`, and the text after its `]`: up to the
-- first bracket that isn't escaped
abbrev pub label_at : List (List ℕ) → Option Part
label_at text = label_in (until is_bracket text)

-- a destination, and what is left of its line
pub record Destination : Type 0 where
  pub text : List ℕ
  pub rest : List ℕ

-- whether a byte can't be in a destination without angle brackets: a space or an ASCII control
-- character; by the parser's own rule it may have a NUL, which is printed as U+FFFD
abbrev pub is_no_destination : ℕ → Bool
is_no_destination byte = (nat_lt byte 33 && not (byte == 0)) || byte == 127

-- how many parentheses are open after a byte
abbrev pub opened_after : ℕ → ℕ → ℕ
opened_after byte opened =
    if byte == 40 then suc opened else if byte == 41 then opened - 1 else opened

-- whether a byte ends it where so many are open: it can't be in it, or is a `)` without its `(`
abbrev pub ends_destination : ℕ → ℕ → Bool
ends_destination opened byte = is_no_destination byte || (byte == 41 && opened == 0)

-- where a destination without angle brackets ends in a line. Its parentheses that aren't escaped are
-- paired, and by the parser's own rule nest at most 32 deep. `count` bytes precede the line, in
-- which so many are open, and `is_after_backslash` says whether the last may escape the next one
abbrev pub bare_end : ℕ → ℕ → Bool → List ℕ → Option ℕ
bare_end count opened is_after_backslash [] = if opened == 0 then Some count else None
bare_end count opened is_after_backslash (byte ∷ rest) =
    if is_after_backslash && is_ascii_punctuation byte then bare_end (suc count) opened false rest
    else if ends_destination opened byte then if opened == 0 then Some count else None
    else if nat_lt 32 (opened_after byte opened) then None
    else bare_end (suc count) (opened_after byte opened) (byte == 92) rest

-- a destination of so many bytes, with so many after it that are no part of it
abbrev pub destination_of : ℕ → Option ℕ → List ℕ → Option Destination
destination_of closing count text = elim count [
  | None ↦ None
  | Some count ↦
      Some (record { text = take count text; rest = drop closing (drop count text) })
]

-- the destination that begins a line: in angle brackets, or without them, which may be empty
abbrev pub destination_at : List ℕ → Option Destination
destination_at line =
    let bare = destination_of 0 (bare_end 0 0 false line) line in
    elim line [
      | [] ↦ bare
      | byte ∷ rest ↦
          if byte == 60 then destination_of 1 (pointed_length rest) rest else bare
    ]

-- the mark that closes a title that another mark opens: quotes or an apostrophe, or parentheses
abbrev pub closing_mark : ℕ → Option ℕ
closing_mark byte =
    if byte == 34 || byte == 39 then Some byte else if byte == 40 then Some 41 else None

-- the title before a byte that ends it, if that is its closing mark, and the text after it
abbrev pub title_in : ℕ → Option Part → Option Part
title_in close found = elim found [
  | None ↦ None
  | Some part ↦
      if begins_with close part.rest
      then Some (record { text = part.text; rest = after_next part.rest })
      else None
]

-- the title after a mark: up to the first closing mark that isn't escaped; in parentheses it has no
-- `(` that isn't escaped
abbrev pub title_after : ℕ → ℕ → List (List ℕ) → Option Part
title_after mark close text = title_in close (until (stops_title mark close) text)

-- the title that begins a text, and the text after it
abbrev pub title_at : List (List ℕ) → Option Part
title_at text = elim text [
  | [] ↦ None
  | line ∷ lines ↦ elim line [
    | [] ↦ None
    | byte ∷ rest ↦ elim (closing_mark byte) [
      | None ↦ None
      | Some close ↦ title_after byte close (rest ∷ lines)
    ]
  ]
]
