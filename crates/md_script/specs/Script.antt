-- The content of a whole script, and its invalid lines.
use Rattle.std.specs.Prelude.{◌≡◌, ℕ, ◌+◌, Bool, ◌&&◌, ◌||◌, IsTrue, IsFalse, List, [], ◌∷◌, ◌++◌}
use Rattle.std.specs.Prelude.{length, filter_map, is_some, bytes_eq, codes}
use Rattle.std.specs.List.{join_with_byte}
use Rattle.md_base.specs.declared.event.Event as event
use Rattle.md_script.specs.declared.error.RunError.{RunError}
use Rattle.md_script.specs.declared.error.RunError.TheVariants.{Memory, Line, Event}
use Rattle.md_script.specs.Line.{lines_of, event_of}
use Rattle.md_script.specs.Setting.{is_setting, option_name, is_new, HasOptions}
use Rattle.md_text.specs.declared.options.CompileOptions.{CompileOptions}

-- the line that ends a script
abbrev pub end_line : List ℕ
end_line = codes "--"

-- a line is valid after these: an event, or an option that none of them sets
abbrev pub is_readable_after : List (List ℕ) → List ℕ → Bool
is_readable_after earlier line =
    is_some (event_of line) || is_setting line && is_new earlier (option_name line)

-- each line is valid after the earlier ones and those before it
abbrev pub ReadsAfter : List (List ℕ) → List (List ℕ) → Type 0
ReadsAfter earlier [] = Unit {0}
ReadsAfter earlier (line ∷ lines) = IsTrue (is_readable_after earlier line)
    × ReadsAfter (earlier ++ line ∷ []) lines

-- an input is valid lines, the line `--`, and the lines of a document
pub record IsScript (input : List ℕ) (body document : List (List ℕ)) : Type 0 where
  pub whole : lines_of input ≡ body ++ end_line ∷ document
  pub reads : ReadsAfter [] body

abbrev pub IsReadable : List ℕ → Type 0
IsReadable input =
    (body : List (List ℕ)) × (document : List (List ℕ)) × IsScript input body document

-- its content is these events over these bytes, under these options
pub record StandsFor (input : List ℕ) (events : List event.Event) (bytes : List ℕ)
    (options : CompileOptions) : Type 0 where
  pub body : List (List ℕ)
  pub document : List (List ℕ)
  pub script : IsScript input body document
  pub says : events ≡ filter_map event_of body
  pub sets : HasOptions body options
  pub rest : bytes ≡ join_with_byte 10 document

-- there is no line here, or one that is neither `--` nor valid
abbrev pub StopsAfter : List (List ℕ) → List (List ℕ) → Type 0
StopsAfter earlier [] = Unit {0}
StopsAfter earlier (line ∷ lines) =
    IsFalse (bytes_eq line end_line) × IsFalse (is_readable_after earlier line)

-- the first invalid line has this number: the lines before it are valid
pub record IsFirstUnreadable (input : List ℕ) (number : ℕ) : Type 0 where
  pub earlier : List (List ℕ)
  pub others : List (List ℕ)
  pub whole : lines_of input ≡ earlier ++ others
  pub reads : ReadsAfter [] earlier
  pub stops : StopsAfter earlier others
  pub counted : number ≡ length earlier + 1

-- why a script can't be read: a line is reported only if the input is invalid, and it is the first
-- invalid one
abbrev pub Explains : List ℕ → RunError → Type 0
Explains input Memory = Unit {0}
Explains input (Line number) = (¬ IsReadable input) × IsFirstUnreadable input number
Explains input (Event index rule) = ⊥
