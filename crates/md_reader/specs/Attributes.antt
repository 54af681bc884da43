-- The attributes of a tag, one after another: only contracts of private functions cite these.
use Rattle.std.specs.Prelude.{◌≡◌, ℕ, suc, Bool, true, false, not, ◌&&◌, ◌⊎◌, List, [], ◌∷◌, ◌++◌}
use Rattle.std.specs.Prelude.{Option, Some, None, option_map, get_or, if◌then◌else◌, bytes_eq}
use Rattle.std.specs.Option.{option_map_or}
use Rattle.std.specs.List.{list_all}
use Rattle.md_text.specs.References.{is_escaped}
use Rattle.md_text.specs.Html.{Attribute, written_attributes}

-- the index of a name in a list
abbrev pub index_of : List (List ℕ) → List ℕ → Option ℕ
index_of [] name = None
index_of (first ∷ names) name =
    if bytes_eq name first then Some 0 else option_map (λ index. suc index) (index_of names name)

-- a list has a name at an index at which none was seen
abbrev pub is_unseen : List (List ℕ) → List Bool → List ℕ → Bool
is_unseen names seen name = option_map_or (λ i. not (get_or seen i false))
    (index_of names name) false

-- the names that are left once this one was read
abbrev pub without : (List ℕ → Bool) → List ℕ → List ℕ → Bool
without left name other = left other && not (bytes_eq name other)

-- each has a name that is left after those before it, and an escaped value
abbrev pub are_left : (List ℕ → Bool) → List Attribute → Bool
are_left left [] = true
are_left left (a ∷ rest) =
    left a.name && is_escaped a.value && are_left (without left a.name) rest

-- where attributes end: `>` or ` /`
abbrev pub EndsAttributes : List ℕ → Type 0
EndsAttributes rest = ((more : List ℕ) × (rest ≡ 62 ∷ more))
    ⊎ ((more : List ℕ) × (rest ≡ 32 ∷ 47 ∷ more))

-- a text is such attributes, each of which passes the test, and a rest
pub record AreAttributes (p : Attribute → Bool) (left : List ℕ → Bool)
    (text rest : List ℕ) : Type 0 where
  pub attributes : List Attribute
  pub is : text ≡ written_attributes attributes ++ rest
  pub fresh : are_left left attributes ≡ true
  pub passes : list_all p attributes ≡ true

-- a text is one of them without the space before it, and a rest
pub record IsAttribute (p : Attribute → Bool) (left : List ℕ → Bool)
    (name text rest : List ℕ) : Type 0 where
  pub value : List ℕ
  pub is : text ≡ name ++ (61 ∷ 34 ∷ (value ++ (34 ∷ rest)))
  pub fresh : left name ≡ true
  pub escaped : is_escaped value ≡ true
  pub passes : p (record { name = name; value = value }) ≡ true

-- the same with the name at this index of a list
pub record IsAttributeAt (p : Attribute → Bool) (names : List (List ℕ)) (seen : List Bool)
    (place : ℕ) (text rest : List ℕ) : Type 0 where
  pub name : List ℕ
  pub is : IsAttribute p (is_unseen names seen) name text rest
  pub at : index_of names name ≡ Some place
