-- The shape of a tree: each node's spine matches the pattern of its role.
use Rattle.std.specs.Prelude.{◌≡◌, ◌≢◌, Option, Some, None, List, [], ◌∷◌}
use Rattle.md_base.specs.declared.event.Point.{Point}
use Rattle.md_base.specs.declared.event.Name.{Name}
use Rattle.md_pattern.specs.declared.kinds.Symbol.{Symbol}
use Rattle.md_pattern.specs.declared.kinds.Role.{Role}
use Rattle.md_pattern.specs.declared.kinds.Role.TheVariants as role
use Rattle.md_pattern.specs.declared.kinds.Standing.{Standing}
use Rattle.md_pattern.specs.declared.kinds.Standing.TheVariants.{Through, Space, Solid, Mdx}
use Rattle.md_base.specs.Tree.{Forest, Empty, Node}
use Rattle.md_pattern.specs.Standing.{standing_of}
use Rattle.md_pattern.specs.Spine.{spine, shown, Matches}

-- an item of an ordered list: the first one's value is the list's number
abbrev pub item_in : Role → Option Symbol → Role
item_in role.OrderedList None = role.FirstOrderedItem
item_in role.OrderedList (Some before) = role.OrderedItem
item_in _ _ = role.Item

-- the prefix of an item, which may have a value in an ordered list
abbrev pub prefix_in : Role → Role
prefix_in role.FirstOrderedItem = role.FirstOrderedPrefix
prefix_in role.OrderedItem = role.OrderedPrefix
prefix_in _ = role.Prefix

-- a fence, which may have more parts if nothing precedes it
abbrev pub code_fence_after : Option Symbol → Role
code_fence_after before = elim before [ None ↦ role.FirstCodeFence | Some _ ↦ role.CodeFence ]

abbrev pub math_fence_after : Option Symbol → Role
math_fence_after before = elim before [ None ↦ role.FirstMathFence | Some _ ↦ role.MathFence ]

-- the label of a footnote call has a text
abbrev pub label_in : Role → Role
label_in around = elim around [ role.FootnoteCall ↦ role.CallLabel | _ ↦ role.Label ]

-- the role of a node with this usual role, in a parent with a role, after a symbol on its spine
abbrev pub role_for : Role → Option Symbol → Role → Role
role_for around before role.Item = item_in around before
role_for around before role.Prefix = prefix_in around
role_for around before role.CodeFence = code_fence_after before
role_for around before role.MathFence = math_fence_after before
role_for around before role.Label = label_in around
role_for around before usual = usual

-- the last symbol if there is one, else the previous one
abbrev pub last_symbol : Option Symbol → List Symbol → Option Symbol
last_symbol before [] = before
last_symbol before (next ∷ symbols) = last_symbol (Some next) symbols

-- the role of the spine that a node's children belong to
abbrev pub inner_role : Standing → Role → Option Symbol → Role
inner_role Through around before = around
inner_role (Solid symbol usual reading) around before = role_for around before usual
inner_role _ around before = role.Childless

-- the symbol before a node's first child on that spine
abbrev pub inner_before : Standing → Option Symbol → Option Symbol
inner_before standing before = elim standing [ Through ↦ before | _ ↦ None ]

-- a claim about a node: by the role of its parent, the symbol before it on that spine, its name,
-- start, end and children
abbrev pub Claim : Type 1
Claim = Role → Option Symbol → Name → Point → Point → Forest → Type 0

-- a claim holds for each node, at any depth, among nodes inside a parent with a role, after a
-- symbol on its spine
abbrev pub EachNode : Claim → Forest → Role → Option Symbol → Type 0
EachNode holds Empty around before = Unit {0}
EachNode holds (Node name start end children rest) around before =
    holds around before name start end children × EachNode holds children
    (inner_role (standing_of name) around before) (inner_before (standing_of name) before)
    × EachNode holds rest around (last_symbol before (shown (standing_of name) (spine children)))

-- the children that a node of this class may have
abbrev pub IsStanding : Standing → Role → Option Symbol → Forest → Type 0
IsStanding Through around before children = Unit {0}
IsStanding Space around before children = children ≡ Empty
IsStanding (Solid symbol usual reading) around before children =
    Matches (role_for around before usual) (spine children)
IsStanding Mdx around before children = ⊥

-- a node has its shape: its parent isn't childless, its own spine matches its pattern, and its name
-- isn't one of MDX
abbrev pub IsShapedNode : Claim
IsShapedNode around before name start end children =
    (around ≢ role.Childless) × IsStanding (standing_of name) around before children

-- nodes have the shape of the grammar, inside a parent with a role, after a symbol on its spine
abbrev pub AreShaped : Forest → Role → Option Symbol → Type 0
AreShaped forest around before = EachNode IsShapedNode forest around before

-- a document has the shape of the grammar: so have its nodes, and its own spine matches the
-- document's pattern
abbrev pub IsShaped : Forest → Type 0
IsShaped forest = AreShaped forest role.Flow None × Matches role.Flow (spine forest)
