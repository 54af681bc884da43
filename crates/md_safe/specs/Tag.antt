-- The tag that the tokenizer is reading, before it emits it (HTML Standard, 13.2.5).
use Rattle.std.specs.Str.{bytes_eq}
use Rattle.std.specs.Prelude.{ℕ, Bool, if◌then◌else◌, List, [], ◌∷◌, ◌++◌}
use Rattle.std.specs.List.{list_any}
use Rattle.md_safe.specs.Token.{TokenAttribute, Token, StartTag, EndTag}

-- a start tag or an end tag, with its name and its attributes so far; the latest attribute comes
-- first, and is the current one
pub record Tag : Type 0 where
  pub is_end : Bool
  pub name : List ℕ
  pub attributes : List TokenAttribute

-- 13.2.5.6 and 13.2.5.7, "create a new start tag token", "a new end tag token": its name is
-- the empty string
abbrev pub new_tag : Bool → Tag
new_tag is_end = record { is_end = is_end; name = []; attributes = [] }

-- 13.2.5.8, "append to the current tag token's tag name"
abbrev pub with_tag_name : Tag → List ℕ → Tag
with_tag_name tag bytes =
    record { is_end = tag.is_end; name = tag.name ++ bytes; attributes = tag.attributes }

-- 13.2.5.32, "start a new attribute in the current tag token": its name is this, its value empty
abbrev pub with_attribute : Tag → List ℕ → Tag
with_attribute tag name = record {
  is_end = tag.is_end;
  name = tag.name;
  attributes = record { name = name; value = [] } ∷ tag.attributes;
}

-- 13.2.5.33, "append to the current attribute's name"
abbrev pub with_name : Tag → List ℕ → Tag
with_name tag bytes = record {
  is_end = tag.is_end;
  name = tag.name;
  attributes = elim tag.attributes [
    | [] ↦ []
    | a ∷ earlier ↦ record { name = a.name ++ bytes; value = a.value } ∷ earlier
  ];
}

-- 13.2.5.36, "append to the current attribute's value"
abbrev pub with_value : Tag → List ℕ → Tag
with_value tag bytes = record {
  is_end = tag.is_end;
  name = tag.name;
  attributes = elim tag.attributes [
    | [] ↦ []
    | a ∷ earlier ↦ record { name = a.name; value = a.value ++ bytes } ∷ earlier
  ];
}

-- 13.2.5.33, duplicate attributes: in the order in which they were begun, without those whose name
-- an earlier one has
abbrev pub kept : List TokenAttribute → List TokenAttribute
kept [] = []
kept (a ∷ earlier) =
    if list_any (λ b. bytes_eq b.name a.name) earlier then kept earlier
    else kept earlier ++ (a ∷ [])

-- "emit the current tag token", whose self-closing flag is this
abbrev pub token_of : Tag → Bool → Token
token_of tag flag =
    if tag.is_end then EndTag tag.name else StartTag tag.name (kept tag.attributes) flag
