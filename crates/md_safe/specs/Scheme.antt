-- The scheme that the URL Standard's basic URL parser (https://url.spec.whatwg.org/, 4.4) finds in
-- its input, by the bytes of UTF-8.
use Rattle.std.specs.Prelude.{ℕ, Bool, true, ◌==◌, ◌||◌, if◌then◌else◌, nat_le, List, [], ◌∷◌, ◌++◌}
use Rattle.std.specs.Prelude.{Option, Some, None}
use Rattle.std.specs.List.{list_all}
use Rattle.std.specs.Option.{option_map_or}
use Rattle.md_text.specs.Bytes.{is_between, is_letter, lower, is_one_of}

-- a C0 control or a space: up to 32
abbrev pub is_control_or_space : ℕ → Bool
is_control_or_space b = nat_le b 32

-- 4.4, "remove any leading C0 control or space"
abbrev pub without_leading : List ℕ → List ℕ
without_leading [] = []
without_leading (b ∷ rest) = if is_control_or_space b then without_leading rest else b ∷ rest

-- 4.4, "remove any trailing C0 control or space": such a byte is removed if nothing else follows it
abbrev pub without_trailing : List ℕ → List ℕ
without_trailing [] = []
without_trailing (b ∷ rest) =
    if list_all is_control_or_space (b ∷ rest) then [] else b ∷ without_trailing rest

-- an ASCII tab or newline: tab, LF or CR
abbrev pub is_tab_or_newline : ℕ → Bool
is_tab_or_newline b = (b == 9) || (b == 10) || (b == 13)

-- 4.4, "remove all ASCII tab or newline"
abbrev pub without_newlines : List ℕ → List ℕ
without_newlines [] = []
without_newlines (b ∷ rest) =
    if is_tab_or_newline b then without_newlines rest else b ∷ without_newlines rest

-- 4.4, the input of the parser's states, after its first steps
abbrev pub trimmed : List ℕ → List ℕ
trimmed url = without_newlines (without_trailing (without_leading url))

-- an ASCII alphanumeric, `+`, `-` or `.`
abbrev pub is_scheme_byte : ℕ → Bool
is_scheme_byte b = is_letter b || is_between 48 57 b || (b == 43) || (b == 45) || (b == 46)

-- 4.4, the scheme state, with its buffer: at `:` that is the scheme, and at the end or at any other
-- byte there is none
abbrev pub in_scheme : List ℕ → List ℕ → Option (List ℕ)
in_scheme buffer [] = None
in_scheme buffer (b ∷ rest) = if is_scheme_byte b then in_scheme (buffer ++ (lower b ∷ [])) rest
    else (if b == 58 then Some buffer else None)

-- 4.4, the scheme start state: a letter begins a scheme, and at the end or at any other
-- byte there is none
abbrev pub in_scheme_start : List ℕ → Option (List ℕ)
in_scheme_start [] = None
in_scheme_start (b ∷ rest) = if is_letter b then in_scheme (lower b ∷ []) rest else None

-- a URL's own scheme, in lower case; a URL without one is relative, and uses that of its page
abbrev pub scheme_of : List ℕ → Option (List ℕ)
scheme_of url = in_scheme_start (trimmed url)

-- no scheme of its own, or one of the list
abbrev pub has_permitted_scheme : List (List ℕ) → List ℕ → Bool
has_permitted_scheme schemes url = option_map_or (is_one_of schemes) (scheme_of url) true
