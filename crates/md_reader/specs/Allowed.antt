-- The elements that a content allows: only contracts of private functions cite these.
use Rattle.std.specs.Prelude.{◌≡◌, ℕ, true, false, List, Option, Some, option_map, find, bytes_eq}
use Rattle.md_text.specs.Html.{Attribute, are_attributes, is_tag, elements, void_tags}
use Rattle.md_safe.specs.Contents as contents
use Rattle.md_reader.specs.Names.{listed, has_rule}
use Rattle.md_reader.specs.declared.content.Allowed.{Allowed}
use Rattle.md_reader.specs.declared.content.Content.{Content}
use Rattle.md_reader.specs.declared.content.Content.TheVariants.{Flow, Phrasing, Linked, Items}
use Rattle.md_reader.specs.declared.content.Content.TheVariants.{Parts, Rows, Cells, Preformatted}
use Rattle.md_reader.specs.declared.content.Content.TheVariants.{Characters}

abbrev pub content_of : Content → contents.Content
content_of Flow = contents.Flow
content_of Phrasing = contents.Phrasing
content_of Linked = contents.Linked
content_of Items = contents.Items
content_of Parts = contents.Parts
content_of Rows = contents.Rows
content_of Cells = contents.Cells
content_of Preformatted = contents.Preformatted
content_of Characters = contents.Characters

-- the content of the element of this name, if it is listed
abbrev pub held_among : List (List ℕ × contents.Content) → List ℕ → Option contents.Content
held_among allowed name =
    option_map (λ element. element.1) (find (λ element. bytes_eq element.0 name) allowed)

-- an element of this name is listed with this content, and may have exactly these attributes; no
-- void tag has this name
pub record IsAllowed (allowed : List (List ℕ × contents.Content)) (name : List ℕ)
    (found : Allowed) : Type 0 where
  pub held : held_among allowed name ≡ Some (content_of found.content)
  pub tag : (attributes : List Attribute) → are_attributes (listed found.list) attributes ≡ true →
      is_tag elements name attributes ≡ true
  pub only : (attributes : List Attribute) → is_tag elements name attributes ≡ true →
      are_attributes (listed found.list) attributes ≡ true
  pub no_void : has_rule void_tags name ≡ false
