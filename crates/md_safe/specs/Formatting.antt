-- The list of active formatting elements (HTML Standard, 13.2.4.3), and the adoption agency
-- (13.2.6.4.7) in the cases in which it only pops elements.
use Rattle.std.specs.Prelude.{ℕ, suc, Bool, false, not, ◌&&◌, ◌||◌, ◌==◌, nat_lt, if◌then◌else◌}
use Rattle.std.specs.Prelude.{List, [], ◌∷◌, length, Option, Some, None, take, bytes_eq}
use Rattle.std.specs.List.{list_any, list_all}
use Rattle.md_safe.specs.Token.{TokenAttribute}
use Rattle.md_safe.specs.Node.{Open, Entry, Marker, Formatting, Parser}
use Rattle.md_safe.specs.Elements.{any_scope, special}
use Rattle.md_safe.specs.Stack.{is_named, is_among, has_identity, has_in_scope, current, popped}
use Rattle.md_safe.specs.Stack.{count_until, pop_until}

-- an element is open
abbrev pub is_open : ℕ → List Open → Bool
is_open identity stack = list_any (has_identity identity) stack

-- an element is in the list
abbrev pub is_active : ℕ → List Entry → Bool
is_active identity [] = false
is_active identity (Marker ∷ entries) = is_active identity entries
is_active identity (Formatting other name attributes ∷ entries) =
    identity == other || is_active identity entries

-- reconstructing the active formatting elements does nothing if the last entry is a marker or is
-- open; the other cases aren't written out
abbrev pub needs_reconstruction : Parser → Bool
needs_reconstruction parser =
    elim parser.active [
      | Formatting identity name attributes ∷ entries ↦ not
          (is_open identity parser.stack)
      | _ ↦ false
    ]

-- two elements have the same name and the same attributes
abbrev pub has_attribute : List TokenAttribute → TokenAttribute → Bool
has_attribute attributes one =
    list_any (λ a. bytes_eq a.name one.name && bytes_eq a.value one.value) attributes

abbrev pub are_same : List TokenAttribute → List TokenAttribute → Bool
are_same these those = length these == length those && list_all (has_attribute those) these

-- how many entries after the last marker are of the same kind
abbrev pub count_same : List ℕ → List TokenAttribute → List Entry → ℕ
count_same name attributes [] = 0
count_same name attributes (Marker ∷ entries) = 0
count_same name attributes (Formatting identity other those ∷ entries) =
    if bytes_eq other name && are_same those attributes
    then suc (count_same name attributes entries) else count_same name attributes entries

-- the list without the earliest of them
abbrev pub without_earliest : List ℕ → List TokenAttribute → List Entry → List Entry
without_earliest name attributes [] = []
without_earliest name attributes (Marker ∷ entries) = Marker ∷ entries
without_earliest name attributes (Formatting identity other those ∷ entries) =
    if bytes_eq other name && are_same those attributes && count_same name attributes entries == 0
    then entries else Formatting identity other those ∷ without_earliest name attributes entries

-- pushes an element onto the list: at most three of one kind come after the last marker
abbrev pub push : ℕ → List ℕ → List TokenAttribute → List Entry → List Entry
push identity name attributes entries = Formatting identity name attributes
    ∷ (if nat_lt 2 (count_same name attributes entries)
    then without_earliest name attributes entries else entries)

-- clears the list up to the last marker
abbrev pub cleared : List Entry → List Entry
cleared [] = []
cleared (Marker ∷ entries) = entries
cleared (Formatting identity name attributes ∷ entries) = cleared entries

-- the last element of a name after the last marker
abbrev pub last_active : List ℕ → List Entry → Option ℕ
last_active name [] = None
last_active name (Marker ∷ entries) = None
last_active name (Formatting identity other attributes ∷ entries) =
    if bytes_eq other name then Some identity else last_active name entries

-- the list without an element
abbrev pub without : ℕ → List Entry → List Entry
without identity [] = []
without identity (Marker ∷ entries) = Marker ∷ without identity entries
without identity (Formatting other name attributes ∷ entries) =
    if other == identity then entries
    else Formatting other name attributes ∷ without identity entries

-- an end tag that has no rule of its own (13.2.6.4.7, "any other end tag"): the current node is
-- popped if it has this name; the tag is ignored if that node is special; the further search isn't
-- written out
abbrev pub end_other : List ℕ → Parser → Option Parser
end_other name parser =
    if current (is_named name) parser.stack
    then Some (record parser { stack = popped parser.stack })
    else (if current (is_among special) parser.stack then Some parser else None)

-- the adoption agency, if no special element is above the formatting element
abbrev pub adopt : List ℕ → ℕ → Parser → Option Parser
adopt name identity parser =
    if not (is_open identity parser.stack)
    then Some (record parser { active = without identity parser.active })
    else (if not (has_in_scope any_scope (has_identity identity) parser.stack) then Some parser
    else (if list_any (is_among special)
    (take (count_until (has_identity identity) parser.stack) parser.stack) then None
    else Some (record parser {
      stack = pop_until (has_identity identity) parser.stack;
      active = without identity parser.active;
    })))

-- an end tag of a formatting element
abbrev pub end_formatting : List ℕ → Parser → Option Parser
end_formatting name parser =
    if current (λ node. is_named name node && not (is_active node.identity parser.active))
    parser.stack then Some (record parser { stack = popped parser.stack })
    else (elim (last_active name parser.active) [
      | None ↦ end_other name parser
      | Some identity ↦ adopt name identity parser
    ])
