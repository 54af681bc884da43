-- Facts about a node that the names of its children decide.
use Rattle.std.specs.Prelude.{Bool, true, false, if◌then◌else◌, List, [], ◌∷◌, ◌++◌, Option, Some}
use Rattle.std.specs.Prelude.{None, unwrap_or}
use Rattle.md_base.specs.declared.event.Name.{Name}
use Rattle.md_base.specs.declared.event.Point.{Point}
use Rattle.md_base.specs.Tree.{Forest, Empty, Node}
use Rattle.md_base.specs.NameTests.{is_transparent, contributes}

-- the names of the nodes on the spine: those that aren't transparent and have only transparent
-- ancestors
abbrev pub spine_names : Forest → List Name
spine_names Empty = []
spine_names (Node name start end children rest) =
    (if is_transparent name then spine_names children else name ∷ []) ++ spine_names rest

-- the first of two options if it has a value, else the second
abbrev pub or_else : {A : Type 0} → Option A → Option A → Option A
or_else first second = elim first [ None ↦ second | Some found ↦ Some found ]

-- the result of `tell` for the first node on the spine whose name passes a test
abbrev pub first_on_spine : {A : Type 0} → (Name → Bool) → (Point → Point → Forest → A) → Forest →
    Option A
first_on_spine test tell Empty = None
first_on_spine test tell (Node name start end children rest) = or_else
    (if test name then Some (tell start end children)
    else (if is_transparent name then first_on_spine test tell children else None))
    (first_on_spine test tell rest)

-- the forest has no node
abbrev pub is_empty : Forest → Bool
is_empty forest = elim forest [ Empty ↦ true | _ ↦ false ]

-- the name of the last child
abbrev pub last_name : Forest → Option Name
last_name Empty = None
last_name (Node name start end children rest) = Some (unwrap_or (last_name rest) name)

-- the name of the last child that contributes to an item
abbrev pub last_contributing : Forest → Option Name
last_contributing Empty = None
last_contributing (Node name start end children rest) =
    or_else (last_contributing rest) (if contributes name then Some name else None)
