-- How much a list of events gives to read and to print, from the events alone: they needn't be a
-- document.
use Rattle.std.specs.Prelude.{ℕ, ◌+◌, ◌-◌, ◌*◌, suc, Bool, true, false, ◌||◌, if◌then◌else◌}
use Rattle.std.specs.Prelude.{List, [], ◌∷◌}
use Rattle.md_base.specs.declared.event.Event.{Event}
use Rattle.md_base.specs.declared.event.Kind.TheVariants.{Enter, Exit}
use Rattle.md_base.specs.declared.event.Name.{Name}
use Rattle.md_base.specs.declared.event.Name.TheVariants.{Definition}
use Rattle.md_base.specs.declared.event.Name.TheVariants.{GfmTableDelimiterCellValue}
pub use Rattle.md_base.specs.NameTests.{is_table}
use Rattle.md_tree.specs.Texts.{is_text_name, is_identifier_name}
pub use Rattle.md_steps.specs.Steps.{is_row}

-- the text of a node of this name is read, or the node has an identifier
abbrev pub is_read : Name → Bool
is_read name = is_text_name name || is_identifier_name name

-- an event enters a node whose name passes a test, or exits one
abbrev pub enters : (Name → Bool) → Event → Bool
enters is event = elim event.kind [ Enter ↦ is event.name | Exit ↦ false ]

abbrev pub exits : (Name → Bool) → Event → Bool
exits is event = elim event.kind [ Enter ↦ false | Exit ↦ is event.name ]

-- how many nodes whose names pass a test are open after an event
abbrev pub depth_after : (Name → Bool) → ℕ → Event → ℕ
depth_after is depth event =
    if is event.name then (elim event.kind [ Enter ↦ suc depth | Exit ↦ depth - 1 ]) else depth

-- the distance through the document from an index, each byte counted once for every open node whose
-- name passes a test
abbrev pub covered_from : (Name → Bool) → ℕ → ℕ → List Event → ℕ
covered_from is index depth [] = 0
covered_from is index depth (event ∷ events) =
    depth * (event.point.index - index)
    + covered_from is event.point.index (depth_after is depth event) events

-- the sum of the lengths of the nodes whose names pass a test; at least this sum if indices
-- decrease
abbrev pub covered : (Name → Bool) → List Event → ℕ
covered is events = covered_from is 0 0 events

-- the sum of the lengths of the nodes that are read
abbrev pub read_length : List Event → ℕ
read_length events = covered is_read events

abbrev pub is_definition : Name → Bool
is_definition name = elim name [ Definition ↦ true | _ ↦ false ]

-- the events before the next one of a definition
abbrev pub before_definition : List Event → List Event
before_definition [] = []
before_definition (event ∷ events) =
    if is_definition event.name then [] else event ∷ before_definition events

abbrev pub is_column : Name → Bool
is_column name = elim name [ GfmTableDelimiterCellValue ↦ true | _ ↦ false ]

-- how many columns of the open table are known after an event
abbrev pub columns_after : ℕ → Event → ℕ
columns_after columns event =
    if enters is_table event then 0 else if enters is_column event then suc columns else columns

-- for each row of a table's body, five for each of its columns; the row of its head ends before the
-- columns are known, and counts nothing
abbrev pub cells : ℕ → List Event → ℕ
cells columns [] = 0
cells columns (event ∷ events) =
    (if exits is_row event then 5 * columns else 0) + cells (columns_after columns event) events

-- the length of what is read, and the cells
abbrev pub work : List Event → ℕ
work events = read_length events + cells 0 events
