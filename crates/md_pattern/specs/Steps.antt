-- Reading a spine symbol by symbol.
use Rattle.std.specs.Prelude.{ℕ, ◌+◌, Bool, true, false, ◌&&◌, if◌then◌else◌, Option, Some, None}
use Rattle.std.specs.Prelude.{option_map, List, [], ◌∷◌, drop}
use Rattle.std.specs.List.{list_all}
use Rattle.md_pattern.specs.declared.kinds.Symbol.{Symbol}
use Rattle.md_pattern.specs.declared.kinds.Symbol.TheVariants as symbol_variants
use symbol_variants.{ReferenceMarker, ReferenceNumeric, ReferenceHexadecimal, ReferenceValue}
use symbol_variants.{SetextText, SetextUnderline, LineEnding}
use Rattle.md_pattern.specs.declared.kinds.Role.{Role}
use Rattle.md_pattern.specs.declared.kinds.Role.TheVariants as role
use Rattle.md_pattern.specs.declared.kinds.Item.{Item}
use Rattle.md_pattern.specs.declared.kinds.Item.TheVariants.{Once, Many}
use Rattle.md_pattern.specs.declared.state.Stage.{Stage}
use Rattle.md_pattern.specs.declared.state.Stage.TheVariants.{Whole, Marker, Numeric, Hexadecimal}
use Rattle.md_pattern.specs.declared.state.Stage.TheVariants.{Setext}
use Rattle.md_pattern.specs.declared.state.State.{State}
use Rattle.md_pattern.specs.Pattern.{pattern_of, class_of, takes}

-- the group that a symbol begins
abbrev pub begun_by : Symbol → Stage
begun_by ReferenceMarker = Marker
begun_by SetextText = Setext
begun_by _ = Whole

-- the next stage of a group that has begun
abbrev pub next_stage : Stage → Symbol → Option Stage
next_stage Marker ReferenceNumeric = Some Numeric
next_stage Marker ReferenceValue = Some Whole
next_stage Numeric ReferenceHexadecimal = Some Hexadecimal
next_stage Numeric ReferenceValue = Some Whole
next_stage Hexadecimal ReferenceValue = Some Whole
next_stage Setext LineEnding = Some Setext
next_stage Setext SetextUnderline = Some Whole
next_stage _ _ = None

-- an item may be omitted
abbrev pub is_optional : Item → Bool
is_optional (Once class) = false
is_optional _ = true

-- the first item that may take the next symbol, if this item takes the symbol
abbrev pub next_position : Item → ℕ → ℕ
next_position (Many class) position = position
next_position _ position = position + 1

-- the same for the first item that takes the symbol, if each item before it may be omitted
abbrev pub seek : ℕ → List Item → Symbol → Option ℕ
seek position [] symbol = None
seek position (item ∷ items) symbol =
    if takes (class_of item) symbol then Some (next_position item position)
    else (if is_optional item then seek (position + 1) items symbol else None)

-- position and stage after a symbol
abbrev pub moved : Stage → ℕ → List Item → Symbol → Option (ℕ × Stage)
moved Whole position items symbol =
    option_map (λ next. (next, begun_by symbol)) (seek position items symbol)
moved stage position items symbol = option_map (λ next. (position, next)) (next_stage stage symbol)

-- the remaining items
abbrev pub items_of : State → List Item
items_of state = drop state.position (pattern_of state.role)

-- the state after a symbol
abbrev pub advance : State → Symbol → Option State
advance state symbol =
    option_map (λ next.
    record { role = state.role; before = Some symbol; position = next.0; stage = next.1 })
    (moved state.stage state.position (items_of state) symbol)

-- no group is open
abbrev pub is_whole : Stage → Bool
is_whole Whole = true
is_whole _ = false

-- the spine may end here
abbrev pub is_complete : State → Bool
is_complete state = is_whole state.stage && list_all is_optional (items_of state)

-- the state at the beginning of a spine
abbrev pub start_of : Role → State
start_of role = record { role = role; before = None; position = 0; stage = Whole }

-- a node of this role may have children
abbrev pub may_hold : Role → Bool
may_hold role.Childless = false
may_hold _ = true
