-- The structure of a URL (RFC 3986, 3).
use Rattle.std.specs.Prelude.{◌++◌, ◌||◌, ◌&&◌, ◌==◌, ◌+◌, ◌∷◌, ℕ, List, [], Option, Some}
use Rattle.std.specs.Prelude.{None, codes, Bool, false, if◌then◌else◌, nat_eq}
use Rattle.std.specs.Prelude.{drop, is_some, option_map}
use Rattle.std.specs.Borrow.{Bor}
use Rattle.std.specs.Char.{is_ascii_alphabetic, is_ascii_alphanumeric}
use Rattle.std.specs.List.{before_first, list_all, list_any, position, position_or_len, starts_with}
use Rattle.md_urls.specs.declared.parts.Parts.{Parts}

-- the parts of a URL; the path is never missing
pub record Url : Type 0 where
  pub scheme : Option (List ℕ)
  pub authority : Option (List ℕ)
  pub path : List ℕ
  pub query : Option (List ℕ)
  pub fragment : Option (List ℕ)

-- the bytes of a part, if it exists
abbrev pub bytes_of : Option (Bor (List ℕ)) → Option (List ℕ)
bytes_of = option_map (λ part. part.now)

-- the parts that the code holds
abbrev pub parts_of : Parts → Url
parts_of parts = record {
  scheme = bytes_of parts.scheme;
  authority = bytes_of parts.authority;
  path = parts.path.now;
  query = bytes_of parts.query;
  fragment = bytes_of parts.fragment;
}

-- what is after the first such mark, if there is one
abbrev pub after : ℕ → List ℕ → Option (List ℕ)
after mark text = option_map (λ at. drop (at + 1) text) (position (λ byte. byte == mark) text)

-- a letter, a digit, `+`, `-` or `.`
abbrev pub is_in_scheme : ℕ → Bool
is_in_scheme byte = is_ascii_alphanumeric byte || byte == 43 || byte == 45 || byte == 46

-- a letter, and letters, digits, `+`, `-` and `.` after it (3.1)
abbrev pub is_scheme : List ℕ → Bool
is_scheme [] = false
is_scheme (first ∷ rest) = is_ascii_alphabetic first && list_all is_in_scheme (first ∷ rest)

-- what is before the first colon of a text, if that is a scheme
abbrev pub scheme_in : List ℕ → Option (List ℕ)
scheme_in text =
    let front = before_first (λ byte. byte == 58) text in
    if is_some (after 58 text) && is_scheme front then Some front else None

-- a text without the scheme at its beginning and the colon after it
abbrev pub behind_scheme : List ℕ → List ℕ
behind_scheme text =
    if is_some (scheme_in text) then drop (position_or_len (λ byte. byte == 58) text + 1) text else text

-- whether a text begins with the mark of an authority
abbrev pub has_authority : List ℕ → Bool
has_authority text = starts_with nat_eq text (codes "//")

-- the authority at the beginning of a text, up to the next slash (3.2)
abbrev pub authority_in : List ℕ → Option (List ℕ)
authority_in text =
    if has_authority text then Some (before_first (λ byte. byte == 47) (drop 2 text)) else None

-- the path, which is what follows the authority (3.3)
abbrev pub path_in : List ℕ → List ℕ
path_in text =
    if has_authority text then drop (position_or_len (λ byte. byte == 47) (drop 2 text)) (drop 2 text)
    else text

-- what is before the fragment of a URL
abbrev pub before_fragment : List ℕ → List ℕ
before_fragment = before_first (λ byte. byte == 35)

-- what is before the fragment and the query
abbrev pub before_query : List ℕ → List ℕ
before_query url = before_first (λ byte. byte == 63) (before_fragment url)

-- the parts of a URL: the fragment is after the first `#`, the query after the first `?` before it
abbrev pub split : List ℕ → Url
split url = record {
  scheme = scheme_in (before_query url);
  authority = authority_in (behind_scheme (before_query url));
  path = path_in (behind_scheme (before_query url));
  query = after 63 (before_fragment url);
  fragment = after 35 url;
}

-- a part with a mark before it, or after it; nothing if the part is missing
abbrev pub behind : List ℕ → Option (List ℕ) → List ℕ
behind mark None = []
behind mark (Some part) = mark ++ part

abbrev pub before : Option (List ℕ) → List ℕ → List ℕ
before None mark = []
before (Some part) mark = part ++ mark

-- what precedes a path so that its beginning isn't read as an authority (3.3) or as a scheme (4.2)
abbrev pub guard : Url → List ℕ
guard url =
    if is_some url.authority then []
    else if starts_with nat_eq url.path (codes "//") then codes "/."
    else if is_some url.scheme then []
    else if list_any (λ byte. byte == 58) (before_first (λ byte. byte == 47) url.path) then codes "./"
    else []

-- the URL of some parts (5.3)
abbrev pub joined : Url → List ℕ
joined url =
    before url.scheme (codes ":") ++ (behind (codes "//") url.authority ++ (guard url
    ++ (url.path ++ (behind (codes "?") url.query ++ behind (codes "#") url.fragment))))
