-- The tokens of a forest of the HTML grammar.
use Rattle.std.specs.Str.{bytes_eq}
use Rattle.std.specs.Prelude.{ℕ, Bool, true, false, ◌&&◌, if◌then◌else◌, List, [], ◌∷◌, ◌++◌, map}
use Rattle.std.specs.List.{list_all, list_any}
use Rattle.md_text.specs.Bytes.{is_one_of}
use Rattle.md_text.specs.References.{read_back}
use Rattle.md_text.specs.Html.{Attribute, Forest, Empty, Text, Void, Element, elements, void_tags}
use Rattle.md_text.specs.Html.{printed_elements, printed_void_tags}
use Rattle.md_safe.specs.Input.{with_line_feeds}
use Rattle.md_safe.specs.Token.{Token, Doctype, Character, StartTag, EndTag, EndOfFile}
use Rattle.md_safe.specs.Token.{TokenAttribute}

-- a text or a value as it is read: newlines normalized, and references read back
abbrev pub seen : List ℕ → List ℕ
seen bytes = read_back (with_line_feeds bytes)

-- attributes, with their values read so
abbrev pub seen_attributes : List Attribute → List TokenAttribute
seen_attributes [] = []
seen_attributes (a ∷ rest) = record { name = a.name; value = seen a.value } ∷ seen_attributes rest

-- a text gives its characters, a void tag a start tag whose self-closing flag is set, and an
-- element a start tag, its content and an end tag
abbrev pub tokens : Forest → List Token
tokens Empty = []
tokens (Text bytes rest) = map Character (seen bytes) ++ tokens rest
tokens (Void name attributes rest) = StartTag name (seen_attributes attributes) true ∷ tokens rest
tokens (Element name attributes inner rest) =
    StartTag name (seen_attributes attributes) false ∷ (tokens inner ++ (EndTag name ∷ tokens rest))

-- a tag of a table, with only attributes that the table lists for it
abbrev pub is_tag_of : List (List ℕ × List (List ℕ)) → List ℕ → List TokenAttribute → Bool
is_tag_of rules name attributes =
    list_any (λ rule. bytes_eq rule.0 name && list_all (λ a. is_one_of rule.1 a.name) attributes)
    rules

-- a tag of two tables, the void ones with the self-closing flag, or a character, or the end of file
abbrev pub is_listed_in : List (List ℕ × List (List ℕ)) → List (List ℕ × List (List ℕ)) → Token →
    Bool
is_listed_in voids rules (StartTag name attributes flag) =
    is_tag_of (if flag then voids else rules) name attributes
is_listed_in voids rules (EndTag name) = is_tag_of rules name []
is_listed_in voids rules (Doctype name) = false
is_listed_in voids rules (Character b) = true
is_listed_in voids rules EndOfFile = true

-- the same of the grammar's tables
abbrev pub is_listed : Token → Bool
is_listed token = is_listed_in void_tags elements token

-- the same of the tables of what the compiler writes
abbrev pub is_printed_token : Token → Bool
is_printed_token token = is_listed_in printed_void_tags printed_elements token
