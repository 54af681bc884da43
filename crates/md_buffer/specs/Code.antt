-- The text of inline code, as the code computes it.
use Rattle.std.specs.Prelude.{ℕ, ◌-◌, Bool, false, not, ◌&&◌, ◌==◌, if◌then◌else◌, List, [], ◌∷◌}
use Rattle.std.specs.Prelude.{length, Option, Some, None, slice_get, slice_range}
use Rattle.std.specs.List.{list_all}

-- the text begins with a pipe
abbrev pub begins_with_pipe : List ℕ → Bool
begins_with_pipe [] = false
begins_with_pipe (byte ∷ bytes) = byte == 124

-- a backslash directly before a pipe
abbrev pub escapes_pipe : ℕ → List ℕ → Bool
escapes_pipe byte bytes = (byte == 92) && begins_with_pipe bytes

-- a text without the backslashes directly before pipes
abbrev pub unescaped_pipes : List ℕ → List ℕ
unescaped_pipes [] = []
unescaped_pipes (byte ∷ bytes) =
    if escapes_pipe byte bytes then unescaped_pipes bytes else byte ∷ unescaped_pipes bytes

-- the value is a space
abbrev pub is_space : Option ℕ → Bool
is_space None = false
is_space (Some byte) = byte == 32

-- the text is all spaces
abbrev pub is_blank : List ℕ → Bool
is_blank text = list_all (λ byte. byte == 32) text

-- the text begins and ends with a space, and isn't all spaces
abbrev pub is_padded : List ℕ → Bool
is_padded text = is_space (slice_get text 0) && is_space (slice_get text (length text - 1))
    && not (is_blank text)

-- a text without one space at each end, if it is padded
abbrev pub without_padding : List ℕ → List ℕ
without_padding text = if is_padded text then slice_range text 1 (length text - 1) else text
