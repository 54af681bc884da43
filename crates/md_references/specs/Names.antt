-- HTML's names of character references.
use Rattle.std.specs.Prelude.{ℕ, Bool, ◌==◌, ◌&&◌, List, map, bytes_eq}
use Rattle.std.specs.List.{slice_split, before_first, after_first, list_all, list_any}
use Rattle.md_references.specs.declared.names.TheConstants.{TEXT}

-- a name and its text, which are before and after the first semicolon
abbrev pub name_and_text : List ℕ → List ℕ × List ℕ
name_and_text entry =
    (before_first (λ byte. byte == 59) entry, after_first (λ byte. byte == 59) entry)

-- the names and texts of a table with NUL between two entries
abbrev pub entries_of : List ℕ → List (List ℕ × List ℕ)
entries_of table = map name_and_text (slice_split (λ byte. byte == 0) table)

-- all of HTML's names that end in a semicolon, each with its text
unfoldable pub html_references : List (List ℕ × List ℕ)
html_references = entries_of TEXT.now

-- whether a list has a pair of texts
abbrev pub has : List (List ℕ × List ℕ) → List ℕ × List ℕ → Bool
has pairs pair = list_any (λ each. bytes_eq each.0 pair.0 && bytes_eq each.1 pair.1) pairs

-- whether each of some names, with its text, is one of HTML's
abbrev pub are_html : List (List ℕ × List ℕ) → Bool
are_html = list_all (has html_references)
