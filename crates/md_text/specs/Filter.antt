-- The tag filter of GitHub flavored Markdown.
use Rattle.std.specs.Prelude.{ℕ, Bool, true, ◌&&◌, ◌||◌, ◌==◌, if◌then◌else◌, List, [], ◌∷◌, ◌++◌}
use Rattle.std.specs.Prelude.{length, drop, take_while, codes}
use Rattle.md_text.specs.Bytes.{is_letter, lowered, is_one_of}

-- the tag names that the filter escapes
abbrev pub disarmed_names : List (List ℕ)
disarmed_names =
    codes "iframe" ∷ codes "noembed" ∷ codes "noframes" ∷ codes "plaintext" ∷ codes "script"
    ∷ codes "style" ∷ codes "textarea" ∷ codes "title" ∷ codes "xmp" ∷ []

-- a text without a `/` at the beginning
abbrev pub past_slash : List ℕ → List ℕ
past_slash text = elim text [ [] ↦ [] | b ∷ rest ↦ if b == 47 then rest else b ∷ rest ]

-- the end, or tab, LF, FF, CR, space, `/` or `>`
abbrev pub ends_name : List ℕ → Bool
ends_name [] = true
ends_name (b ∷ rest) =
    (b == 9) || (b == 10) || (b == 12) || (b == 13) || (b == 32) || (b == 47) || (b == 62)

-- the whole run of letters is a filtered name, and a tag's name may end after it
abbrev pub begins_disarmed_name : List ℕ → Bool
begins_disarmed_name text = is_one_of disarmed_names (lowered (take_while is_letter text))
    && ends_name (drop (length (take_while is_letter text)) text)

-- each byte, depending on the bytes after it: a `<` that opens or closes a filtered tag becomes
-- `&lt;`
abbrev pub tag_filtered : List ℕ → List ℕ
tag_filtered [] = []
tag_filtered (b ∷ rest) =
    (if (b == 60) && begins_disarmed_name (past_slash rest) then codes "&lt;" else b ∷ [])
    ++ tag_filtered rest

-- the replacement of a byte, depending on the bytes after it; only lemmas use it
abbrev pub filtered_byte : ℕ → List ℕ → List ℕ
filtered_byte b rest =
    if (b == 60) && begins_disarmed_name (past_slash rest) then codes "&lt;" else b ∷ []
