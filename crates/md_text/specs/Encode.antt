-- Escaping for HTML, and its inverse.
use Rattle.std.specs.Prelude.{ℕ, Bool, ◌&&◌, ◌==◌, if◌then◌else◌, List, [], ◌∷◌, codes}
use Rattle.std.specs.List.{flat_map}

-- the replacement of a byte: U+FFFD for NUL, and, if HTML is encoded, character references for `&`,
-- `"`, `<` and `>`
abbrev pub encoded_byte : Bool → ℕ → List ℕ
encoded_byte html b =
    if b == 0 then 239 ∷ 191 ∷ 189 ∷ []
    else (if html && (b == 38) then codes "&amp;"
    else (if html && (b == 34) then codes "&quot;"
    else (if html && (b == 60) then codes "&lt;"
    else (if html && (b == 62) then codes "&gt;"
    else b ∷ []))))

-- each byte is escaped independently
abbrev pub encoded : Bool → List ℕ → List ℕ
encoded html text = flat_map (encoded_byte html) text

-- the same for characters: the replacement of a character
abbrev pub encoded_character : Bool → ℕ → List ℕ
encoded_character html c =
    if c == 0 then 65533 ∷ []
    else (if html && (c == 38) then codes "&amp;"
    else (if html && (c == 34) then codes "&quot;"
    else (if html && (c == 60) then codes "&lt;"
    else (if html && (c == 62) then codes "&gt;"
    else c ∷ []))))
