-- Safe HTML.
use Rattle.std.specs.Prelude.{◌≡◌, ◌≤◌, ℕ, false, IsTrue, List}
use Rattle.md_text.specs.Html.{Forest, IsReading, all_attributes}
use Rattle.md_safe.specs.Contents.{Flow, is_contained}
use Rattle.md_depth.specs.Levels.{levels}
use Rattle.md_reader.specs.Permitted.{is_permitted}

-- how deep elements may nest
abbrev pub max_depth : ℕ
max_depth = 485

-- a reading of the text follows the content model, with no link in a link; each `href` and each
-- `src` has no protocol or a permitted one; and its elements nest at most so deep
pub record IsSafeReading (links images : List (List ℕ)) (text : List ℕ)
    (forest : Forest) : Type 0 where
  pub reading : IsReading text forest
  pub contained : IsTrue (is_contained false Flow forest)
  pub permitted : IsTrue (all_attributes (is_permitted links images) forest)
  pub shallow : levels forest ≤ max_depth

-- the text has exactly one reading, and it is such a one
pub record IsSafeHtml (links images : List (List ℕ)) (text : List ℕ) : Type 0 where
  pub forest : Forest
  pub safe : IsSafeReading links images text forest
  pub only : (other : Forest) → IsReading text other → other ≡ forest
