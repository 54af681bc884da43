-- The names on a spine, for contracts and lemmas of functions that iterate over nodes.
use Rattle.std.specs.Prelude.{if◌then◌else◌, List, [], ◌∷◌, ◌++◌, Option, Some, None, unwrap_or}
use Rattle.md_base.specs.declared.event.Name.{Name}
use Rattle.md_base.specs.Tree.{Forest}
use Rattle.md_base.specs.NameTests.{is_transparent}
use Rattle.md_base.specs.Children.{spine_names}

-- the last of some names
abbrev pub last_of : List Name → Option Name
last_of [] = None
last_of (name ∷ names) = Some (unwrap_or (last_of names) name)

-- the names on the spine before a node's first child
abbrev pub spine_inside : Name → List Name → List Name
spine_inside name spine = if is_transparent name then spine else []

-- the names on the spine after a node
abbrev pub spine_after_node : Name → Forest → List Name → List Name
spine_after_node name children spine =
    spine ++ (if is_transparent name then spine_names children else name ∷ [])
