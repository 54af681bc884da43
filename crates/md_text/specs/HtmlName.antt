-- The names of tags and attributes in the HTML grammar.
use Rattle.md_base.specs.Identifier.{is_nonempty}
use Rattle.std.specs.Prelude.{ℕ, ◌==◌, Bool, ◌&&◌, ◌||◌, List}
use Rattle.std.specs.List.{list_all}
use Rattle.md_text.specs.Bytes.{is_between}

-- a lower-case letter, a digit or a hyphen
abbrev pub is_name_byte : ℕ → Bool
is_name_byte b = is_between 97 122 b || is_between 48 57 b || (b == 45)

-- one or more of these bytes
abbrev pub is_name : List ℕ → Bool
is_name name = is_nonempty name && list_all is_name_byte name
