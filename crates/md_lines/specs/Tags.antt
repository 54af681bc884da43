-- Opening and closing tags (6.10). A text is what is left of a leaf's lines (`Texts`).
use Rattle.std.specs.Prelude.{ℕ, zero, suc, Bool, Option, Some, None, List, [], ◌∷◌, ◌==◌, ◌&&◌, ◌||◌}
use Rattle.std.specs.Prelude.{false, not, nat_lt, drop, length, if◌then◌else◌}
use Rattle.std.specs.List.{prefix_len}
use Rattle.md_lines.specs.declared.class.Class.TheVariants.{Alphabetic, Alphanumeric, Name}
use Rattle.md_lines.specs.declared.class.Class.TheVariants.{Unquoted}
use Rattle.md_lines.specs.Classes.{is_in}
use Rattle.md_lines.specs.Texts.{begins_with, begins_with_space, after_next, after_spaces, size}

-- whether the next byte of the line passes a test
abbrev pub next_passes : (ℕ → Bool) → List (List ℕ) → Bool
next_passes test text = elim text [
  | [] ↦ false
  | line ∷ _ ↦ elim line [ [] ↦ false | byte ∷ _ ↦ test byte ]
]

-- how many bytes that pass a test come next in the line, and the text after them
abbrev pub run_of : (ℕ → Bool) → List (List ℕ) → ℕ
run_of test text = elim text [ [] ↦ 0 | line ∷ _ ↦ prefix_len test line ]

abbrev pub after_run : (ℕ → Bool) → List (List ℕ) → List (List ℕ)
after_run test text = elim text [ [] ↦ [] | line ∷ lines ↦ drop (prefix_len test line) line ∷ lines ]

-- the text after one or more bytes that pass a test
abbrev pub after_some : (ℕ → Bool) → List (List ℕ) → Option (List (List ℕ))
after_some test text = if nat_lt 0 (run_of test text) then Some (after_run test text) else None

-- a tag's name: a letter, and letters, digits and hyphens
abbrev pub is_in_tag_name : ℕ → Bool
is_in_tag_name byte = is_in Alphanumeric byte || byte == 45

abbrev pub after_tag_name : List (List ℕ) → Option (List (List ℕ))
after_tag_name text =
    if next_passes (is_in Alphabetic) text then Some (after_run is_in_tag_name text) else None

-- the text after the quote that ends a value
abbrev pub after_quoted : ℕ → List (List ℕ) → Option (List (List ℕ))
after_quoted quote [] = None
after_quoted quote (line ∷ lines) =
    let count = prefix_len (λ byte. not (byte == quote)) line in
    if nat_lt count (length line) then Some (drop (suc count) line ∷ lines)
    else after_quoted quote lines

-- an attribute's value, in quotes, in apostrophes, or without them
abbrev pub after_value : List (List ℕ) → Option (List (List ℕ))
after_value text =
    if begins_with 34 text then after_quoted 34 (after_next text)
    else if begins_with 39 text then after_quoted 39 (after_next text)
    else after_some (is_in Unquoted) text

-- after an attribute's name: spaces, `=`, spaces and a value, or nothing
abbrev pub after_specification : List (List ℕ) → Option (List (List ℕ))
after_specification text =
    if begins_with 61 (after_spaces text)
    then after_value (after_spaces (after_next (after_spaces text))) else Some text

-- whether an attribute's name begins with a byte: a letter, `_` or `:`
abbrev pub begins_name : ℕ → Bool
begins_name byte = is_in Alphabetic byte || (byte == 95 || byte == 58)

-- whether an attribute comes next: spaces, and a name
abbrev pub has_attribute : List (List ℕ) → Bool
has_attribute text = begins_with_space text && next_passes begins_name (after_spaces text)

-- an attribute after spaces: a name, and perhaps a value
abbrev pub after_attribute : List (List ℕ) → Option (List (List ℕ))
after_attribute text = after_specification (after_run (is_in Name) (after_spaces text))

-- the text after this byte
abbrev pub after_byte : ℕ → List (List ℕ) → Option (List (List ℕ))
after_byte byte text = if begins_with byte text then Some (after_next text) else None

-- the text after a byte that may be there
abbrev pub past : ℕ → List (List ℕ) → List (List ℕ)
past byte text = if begins_with byte text then after_next text else text

-- after the name of an opening tag: attributes, each of which has two characters at least, spaces, perhaps `/`,
-- and `>`
abbrev pub after_opening : ℕ → List (List ℕ) → Option (List (List ℕ))
after_opening zero text = None
after_opening (suc most) text =
    if has_attribute text then elim (after_attribute text) [
      | Some rest ↦ after_opening most rest
      | None ↦ None
    ] else after_byte 62 (past 47 (after_spaces text))

-- the text after the tag that begins it, if one does: `<`, perhaps `/`, and the rest of the tag
abbrev pub after_name : Bool → List (List ℕ) → Option (List (List ℕ))
after_name is_closing text =
    if is_closing then after_byte 62 (after_spaces text) else after_opening (size text) text

abbrev pub after_tag : List (List ℕ) → Option (List (List ℕ))
after_tag text =
    if begins_with 60 text then elim (after_tag_name (past 47 (after_next text))) [
      | Some rest ↦ after_name (begins_with 47 (after_next text)) rest
      | None ↦ None
    ] else None
