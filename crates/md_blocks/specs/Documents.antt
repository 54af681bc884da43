-- A document: its lines, and what is read of them.
use Rattle.std.specs.Prelude.{ℕ, Bool, Option, Some, None, List, [], ◌∷◌, ◌++◌, ◌==◌, ◌&&◌, nat_eq, nat_lt, get_or, length, take, drop}
use Rattle.std.specs.Prelude.{zero, suc, codes, if◌then◌else◌}
use Rattle.std.specs.List.{prefix_len, starts_with}
use Rattle.std.specs.Str.{bytes_eq}
use Rattle.md_lines.specs.Lines.{ends_no_line}
use Rattle.md_blocks.specs.declared.options.MarkdownOptions.{MarkdownOptions}
use Rattle.md_blocks.specs.BlockStructure.{line_read, lines_defined, started}
use Rattle.md_blocks.specs.Entries.{Line, Entry, FrontMatter}
use Rattle.md_blocks.specs.Leaves.{without_blanks}
use Rattle.md_blocks.specs.Rests.{rest_at}
use Rattle.md_blocks.specs.States.{State, closed_to, with_entries}

-- 2.1: the length of the line ending at the beginning of some bytes: a line feed, a carriage return,
-- or a carriage return and a line feed; no ending at the end of the document
abbrev pub ending_length : List ℕ → ℕ
ending_length [] = 0
ending_length (byte ∷ rest) = if byte == 13 && get_or rest 0 0 == 10 then 2 else 1

-- 2.1: the first line of some bytes: those before a line feed or a carriage return, and its ending
abbrev pub first_line : List ℕ → Line
first_line bytes =
    let count = prefix_len ends_no_line bytes in
    let left = drop count bytes in
    record { text = take count bytes; ending = take (ending_length left) left }

-- the bytes after it
abbrev pub after_line : List ℕ → List ℕ
after_line bytes =
    let left = drop (prefix_len ends_no_line bytes) bytes in
    drop (ending_length left) left

-- the lines of some bytes. Each takes a byte, so the length of the bytes is enough `fuel`
abbrev pub lines_in : ℕ → List ℕ → List Line
lines_in zero bytes = []
lines_in (suc fuel) [] = []
lines_in (suc fuel) (byte ∷ rest) =
    first_line (byte ∷ rest) ∷ lines_in fuel (after_line (byte ∷ rest))

abbrev pub lines_of : List ℕ → List Line
lines_of bytes = lines_in (length bytes) bytes

-- lines read one after the other
abbrev pub lines_read : MarkdownOptions → List Line → State → State
lines_read options [] state = state
lines_read options (line ∷ lines) state = lines_read options lines
    (line_read options (nat_lt 0 (length line.ending)) (rest_at 0 line.text) line.ending state)

-- an own rule: a byte order mark at the beginning of a document is no text
abbrev pub mark_length : List ℕ → ℕ
mark_length bytes = if starts_with nat_eq bytes (239 ∷ 187 ∷ 191 ∷ []) then 3 else 0

-- an own rule: a fence of front matter is a line of three hyphens, which spaces and tabs may follow
abbrev pub is_front_fence : List ℕ → Bool
is_front_fence text = bytes_eq (without_blanks text) (codes "---")

-- front matter: the document up to its second fence, and the lines after that
pub record Front : Type 0 where
  pub text : List ℕ
  pub rest : List Line

-- after the first fence, and what is before some lines
abbrev pub front_closed : List ℕ → List Line → Option Front
front_closed before [] = None
front_closed before (line ∷ lines) =
    if is_front_fence line.text then Some (record { text = before ++ line.text; rest = lines })
    else front_closed ((before ++ line.text) ++ line.ending) lines

-- the first line must be a fence
abbrev pub front_opened : List ℕ → List Line → Option Front
front_opened before [] = None
front_opened before (line ∷ lines) =
    if is_front_fence line.text then front_closed ((before ++ line.text) ++ line.ending) lines
    else None

abbrev pub front_matter : List ℕ → Option Front
front_matter bytes =
    let mark = mark_length bytes in
    front_opened (take mark bytes) (lines_of (drop mark bytes))

-- the state before the first line that is read, and the lines from that on
pub record Beginning : Type 0 where
  pub state : State
  pub lines : List Line

abbrev pub beginning : MarkdownOptions → List ℕ → Beginning
beginning options bytes = elim (if options.front_matter then front_matter bytes else None) [
  | None ↦ record { state = started; lines = lines_of (drop (mark_length bytes) bytes) }
  | Some front ↦
      record { state = with_entries (FrontMatter front.text ∷ []) started; lines = front.rest }
]

-- the state after a document: after its last line all that is open is closed
abbrev pub document_read : MarkdownOptions → List ℕ → State
document_read options bytes =
    let from = beginning options bytes in
    let last = lines_read options from.lines from.state in
    closed_to (lines_defined last) 0 last

-- the entries of a document
abbrev pub document_entries : MarkdownOptions → List ℕ → List Entry
document_entries options bytes = (document_read options bytes).entries
