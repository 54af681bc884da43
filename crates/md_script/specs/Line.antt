-- The lines of an input, and the event of a line.
use Rattle.std.specs.Prelude.{ℕ, Bool, ◌==◌, nat_le, if◌then◌else◌, List, [], ◌∷◌, take, drop}
use Rattle.std.specs.Prelude.{Option, Some, None, option_and_then, bytes_eq, codes}
use Rattle.std.specs.List.{list_any, before_first, after_first, slice_split}
use Rattle.md_base.specs.declared.event.Kind.{Kind}
use Rattle.md_base.specs.declared.event.Kind.TheVariants.{Enter, Exit}
use Rattle.md_base.specs.declared.event.Name.{Name}
use Rattle.md_base.specs.declared.event.Name.TheVariants.{Other}
use Rattle.md_base.specs.declared.event.Point.{Point}
use Rattle.md_base.specs.declared.event.Event.{Event}
use Rattle.md_base.specs.EventNames.{event_names}
use Rattle.md_script.specs.Number.{number_of}
use Rattle.md_base.specs.Table.{listed}

abbrev pub is_line_feed : ℕ → Bool
is_line_feed byte = byte == 10

-- the lines of an input; the last one may be empty
abbrev pub lines_of : List ℕ → List (List ℕ)
lines_of input = slice_split is_line_feed input

-- the result of a function for a value, if there is one
infixl 10 ◌>>=◌
abbrev pub ◌>>=◌ : {A B : Type 0} → Option A → (A → Option B) → Option B
value >>= next = option_and_then next value

-- `Other` and its number
abbrev pub other_name : List ℕ → Option Name
other_name text =
    if bytes_eq (take 5 text) (codes "Other") then (number_of 5 (drop 5 text)
    >>= λ number. if nat_le number 65535 then Some (Other number) else None) else None

abbrev pub otherwise : {A : Type 0} → Option A → Option A → Option A
otherwise (Some value) other = Some value
otherwise None other = other

-- the name that a text spells
abbrev pub name_of : List ℕ → Option Name
name_of text = otherwise (listed event_names text) (other_name text)

abbrev pub is_dot : ℕ → Bool
is_dot byte = byte == 46

abbrev pub is_space : ℕ → Bool
is_space byte = byte == 32

-- the columns after a dot, 0 if there is no dot
abbrev pub columns_of : List ℕ → Option ℕ
columns_of place = if list_any is_dot place then number_of 3 (after_first is_dot place) else Some 0

-- an index of 1 to 9 digits, and the columns
abbrev pub point_of : List ℕ → Option Point
point_of place = do
  index ← number_of 9 (before_first is_dot place)
  columns ← columns_of place
  Some (record { line = 1; column = 1; index = index; vs = columns })

abbrev pub kind_of : ℕ → Option Kind
kind_of sign = if sign == 43 then Some Enter else if sign == 45 then Some Exit else None

-- the event of a line: `+` or `-`, a name, one space and a point
abbrev pub event_of : List ℕ → Option Event
event_of [] = None
event_of (sign ∷ rest) = do
  kind ← kind_of sign
  name ← name_of (before_first is_space rest)
  point ← point_of (after_first is_space rest)
  Some (record { kind = kind; name = name; point = point })
