-- The parts of a plain line that are read at once; only private contracts cite it.
use Rattle.std.specs.Prelude.{◌≡◌, ℕ, ◌+◌, Bool, false, ◌||◌, List, ◌∷◌, ◌++◌, length, Some}
use Rattle.std.specs.List.{list_any}
use Rattle.md_base.specs.declared.event.Event.{Event}
use Rattle.md_base.specs.declared.event.Name.{Name}
use Rattle.md_base.specs.declared.event.Point.{Point}
use Rattle.md_script.specs.Line.{is_space, is_line_feed, lines_of, name_of, point_of, event_of}
use Rattle.md_script.specs.Number.{number_of}

-- a byte that ends a name
abbrev pub is_break : ℕ → Bool
is_break byte = is_space byte || is_line_feed byte

-- the first line of an input encodes this event, and this follows its line feed
pub record BeginsWithEvent (input : List ℕ) (event : Event) (following : List ℕ) : Type 0 where
  pub line : List ℕ
  pub cut : lines_of input ≡ line ∷ lines_of following
  pub size : length line + length following + 1 ≡ length input
  pub says : event_of line ≡ Some event

-- the digits of this number, at most `most`, and this after the byte that ends them
pub record BeginsWithNumber (most end : ℕ) (bytes : List ℕ) (number : ℕ)
    (following : List ℕ) : Type 0 where
  pub digits : List ℕ
  pub whole : bytes ≡ digits ++ end ∷ following
  pub value : number_of most digits ≡ Some number

-- a text that encodes this point, and this after the line feed that ends it
pub record BeginsWithPlace (bytes : List ℕ) (point : Point) (following : List ℕ) : Type 0 where
  pub text : List ℕ
  pub whole : bytes ≡ text ++ 10 ∷ following
  pub says : point_of text ≡ Some point
  pub uncut : list_any is_line_feed text ≡ false

-- a text that spells this name, and this after the space that ends it
pub record BeginsWithName (bytes : List ℕ) (name : Name) (following : List ℕ) : Type 0 where
  pub text : List ℕ
  pub whole : bytes ≡ text ++ 32 ∷ following
  pub says : name_of text ≡ Some name
