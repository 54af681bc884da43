-- The attributes that C requests, and the list of headings that it receives.
use Rattle.std.specs.Prelude.{◌≡◌, ℕ, Bool, false, List, [], ◌∷◌, ◌++◌, Option, Some}
use Rattle.std.specs.Prelude.{option_and_then, is_some, slice_get}
use Rattle.std.specs.Option.{option_map_or}
use Rattle.std.specs.List.{flat_map}
use Rattle.std.specs.Fmt.{decimal}
use Rattle.md_safe.specs.Token.{Token}
use Rattle.md_page.specs.Added.{Listed, with_link_rel, with_heading_ids, headings_of}
use Rattle.md_abi.specs.Options.{text_of}
use Rattle.md_abi.specs.declared.option.CText.{CText}
use Rattle.md_abi.specs.declared.attributes.CAttributes.{CAttributes}

-- the requested text, if one is set
abbrev pub asked : CText → Option (List ℕ)
asked given = option_and_then (λ text. text) (text_of given)

-- tokens with a `rel` on links, if one is requested
abbrev pub with_rel : Option (List ℕ) → List Token → List Token
with_rel rel tokens = option_map_or (λ rel. with_link_rel rel tokens) rel tokens

-- tokens with ids on headings, if a prefix is requested
abbrev pub with_ids : Option (List ℕ) → List Token → List Token
with_ids prefix tokens = option_map_or (λ prefix. with_heading_ids prefix tokens) prefix tokens

-- the headings that get an id so
abbrev pub headings_with : Option (List ℕ) → List Token → List Listed
headings_with prefix tokens = option_map_or (λ prefix. headings_of tokens) prefix []

-- a heading in the list: NUL, its level, a space, its number, a space, and its text, which has no
-- NUL
abbrev pub heading_line : Listed → List ℕ
heading_line heading =
    0 ∷ (decimal heading.level ++ (32 ∷ (decimal heading.number ++ (32 ∷ heading.text))))

-- the list
abbrev pub listing : List Listed → List ℕ
listing headings = flat_map heading_line headings

-- which fields encode an attribute, by the attributes' numbers from 0
abbrev pub readable_attributes : CAttributes → List Bool
readable_attributes given = is_some (text_of given.rel) ∷ is_some (text_of given.heading_ids) ∷ []

-- the field with this number encodes no attribute
abbrev pub StandsForNoAttribute : CAttributes → ℕ → Type 0
StandsForNoAttribute given number = slice_get (readable_attributes given) number ≡ Some false
