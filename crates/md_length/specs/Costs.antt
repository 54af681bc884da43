-- The maximum length of what a node itself prints. Only proofs use it.
use Rattle.std.specs.Prelude.{ℕ, suc, ◌+◌, ◌-◌, ◌*◌, if◌then◌else◌, List}
use Rattle.md_base.specs.declared.event.Name.{Name}
use Rattle.md_base.specs.declared.event.Point.{Point}
use Rattle.md_base.specs.declared.event.Position.{Position}
use Rattle.md_base.specs.Tree.{Forest, Empty, Node}
use Rattle.md_tree.specs.Rules.{place}
use Rattle.md_length.specs.Longest.{longest}
use Rattle.md_length.specs.Work.{is_read}

-- the length of a node in the document
abbrev pub span : Point → Point → ℕ
span start end = end.index - start.index

-- the same for a node that is read, else 0
abbrev pub own : Name → Position → ℕ
own name place = if is_read name then span place.start place.end else 0

-- what each node may print besides its text
abbrev pub unit : List (List ℕ × List ℕ) → ℕ
unit names = 256 + 42 * longest names

-- what some nodes may print, and what of their texts is kept to be printed elsewhere
abbrev pub cost : List (List ℕ × List ℕ) → Forest → ℕ
cost names Empty = 0
cost names (Node name start end children rest) =
    unit names + 42 * own name (place start end) + cost names children + cost names rest

-- the number of nodes
abbrev pub nodes : Forest → ℕ
nodes Empty = 0
nodes (Node name start end children rest) = suc (nodes children + nodes rest)
