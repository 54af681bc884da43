-- A URL that is resolved against a base (RFC 3986, 5.2).
use Rattle.std.specs.Prelude.{◌++◌, ◌||◌, ◌&&◌, ◌==◌, ◌-◌, ◌∷◌, ℕ, List, [], Bool, true, false}
use Rattle.std.specs.Prelude.{codes, if◌then◌else◌, nat_eq, bytes_eq, is_some, length, take}
use Rattle.std.specs.List.{join_with_byte, list_any, slice_split, starts_with}
use Rattle.md_urls.specs.Urls.{Url, split, joined}

-- the segments of a path, which slashes separate (3.3)
abbrev pub segments : List ℕ → List (List ℕ)
segments = slice_split (λ byte. byte == 47)

-- some segments without the last one
abbrev pub parent : List (List ℕ) → List (List ℕ)
parent segments = take (length segments - 1) segments

-- an empty segment where no more follow, so that a path that ends in `.` or `..` ends in a slash
abbrev pub closing : List (List ℕ) → List (List ℕ)
closing [] = [] ∷ []
closing (segment ∷ more) = []

-- kept segments with one more: `.` is dropped, and `..` with the segment before it
abbrev pub with_segment : List (List ℕ) → List ℕ → List (List ℕ) → List (List ℕ)
with_segment kept segment more =
    if bytes_eq segment (codes ".") then kept ++ closing more
    else if bytes_eq segment (codes "..") then parent kept ++ closing more
    else kept ++ segment ∷ []

-- the segments kept so far, with all that follow
abbrev pub settle : List (List ℕ) → List (List ℕ) → List (List ℕ)
settle kept [] = kept
settle kept (segment ∷ more) = settle (with_segment kept segment more) more

-- whether a path of these segments would be empty, or absolute, since the first is empty
abbrev pub begins_empty : List (List ℕ) → Bool
begins_empty [] = true
begins_empty ([] ∷ more) = true
begins_empty ((byte ∷ segment) ∷ more) = false

-- what precedes the segments of a relative path so that it stays one (4.2)
abbrev pub relative : List (List ℕ) → List ℕ
relative segments = if begins_empty segments then codes "./" else []

-- a path without its segments `.` and `..` (5.2.4); one that begins with no slash stays so, and
-- isn't emptied
abbrev pub without_dots : List ℕ → List ℕ
without_dots [] = []
without_dots (first ∷ rest) =
    if first == 47 then 47 ∷ join_with_byte 47 (settle [] (segments rest))
    else relative (settle [] (segments (first ∷ rest)))
    ++ join_with_byte 47 (settle [] (segments (first ∷ rest)))

-- a path up to its last slash
abbrev pub directory : List ℕ → List ℕ
directory [] = []
directory (byte ∷ rest) = if list_any (λ b. b == 47) (byte ∷ rest) then byte ∷ directory rest else []

-- whether a text is empty
abbrev pub is_empty : List ℕ → Bool
is_empty [] = true
is_empty (byte ∷ rest) = false

-- a path that is relative to a base's (5.2.3)
abbrev pub merged : Url → List ℕ → List ℕ
merged base path =
    (if is_some base.authority && is_empty base.path then codes "/" else directory base.path) ++ path

-- the path of a URL that has one of its own, by the base's (5.2.2)
abbrev pub path_by : Url → List ℕ → List ℕ
path_by base path =
    if starts_with nat_eq path (codes "/") then without_dots path else without_dots (merged base path)

-- the parts of a URL without a scheme, resolved against a base's (5.2.2)
abbrev pub target : Url → Url → Url
target base url =
    if is_some url.authority then record url { scheme = base.scheme; path = without_dots url.path }
    else if is_empty url.path then record base {
      query = if is_some url.query then url.query else base.query;
      fragment = url.fragment;
    }
    else record base {
      path = path_by base url.path;
      query = url.query;
      fragment = url.fragment;
    }

-- a URL that stays as it is: it has a scheme, is empty, or is a fragment alone
abbrev pub stays : List ℕ → Bool
stays url = is_some (split url).scheme || is_empty url || starts_with nat_eq url (codes "#")

-- a URL that doesn't stay as it is, resolved against a base
abbrev pub resolved : List ℕ → List ℕ → List ℕ
resolved base url = joined (target (split base) (split url))
