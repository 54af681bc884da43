-- Which bytes are in a class.
use Rattle.std.specs.Prelude.{ℕ, Bool, List, ◌||◌, ◌==◌, not, codes}
use Rattle.std.specs.List.{list_any}
use Rattle.std.specs.Char.{is_ascii_alphabetic, is_ascii_alphanumeric, is_ascii_punctuation}
use Rattle.md_lines.specs.Lines.{is_blank}
use Rattle.md_lines.specs.declared.class.Class.{Class}
use Rattle.md_lines.specs.declared.class.Class.TheVariants.{Space, Punctuation, Alphanumeric}
use Rattle.md_lines.specs.declared.class.Class.TheVariants.{Alphabetic, Mark, Name, Unquoted}

-- whether a byte is one of a text's
abbrev pub is_one_of : List ℕ → ℕ → Bool
is_one_of text byte = list_any (λ one. byte == one) text

-- whether a byte may begin a mark in text
abbrev pub is_mark : ℕ → Bool
is_mark byte = is_one_of (codes "\\`&<[]!*_~$@:.") byte

-- whether a byte may be in an attribute's name
abbrev pub is_in_name : ℕ → Bool
is_in_name byte = is_ascii_alphanumeric byte || is_one_of (codes "_:.-") byte

-- whether a byte may be in an attribute's value without quotes
abbrev pub is_unquoted : ℕ → Bool
is_unquoted byte = not (is_one_of (codes " \t\n\r\"'=<>`") byte)

-- the number of a class
abbrev pub class_number : Class → ℕ
class_number class = elim class [
  | Space ↦ 1
  | Punctuation ↦ 2
  | Alphanumeric ↦ 4
  | Alphabetic ↦ 8
  | Mark ↦ 16
  | Name ↦ 32
  | Unquoted ↦ 64
]

-- whether a byte is in a class
abbrev pub is_in : Class → ℕ → Bool
is_in class byte = elim class [
  | Space ↦ is_blank byte
  | Punctuation ↦ is_ascii_punctuation byte
  | Alphanumeric ↦ is_ascii_alphanumeric byte
  | Alphabetic ↦ is_ascii_alphabetic byte
  | Mark ↦ is_mark byte
  | Name ↦ is_in_name byte
  | Unquoted ↦ is_unquoted byte
]
