-- A node that has its shape and meets the rules.
use Rattle.std.proofs.Common.{ℕ, Option, List, arith}
use Rattle.md_pattern.specs.declared.kinds.Symbol.{Symbol}
use Rattle.md_pattern.specs.declared.kinds.Role.{Role}
use Rattle.md_base.specs.Tree.{Forest, Empty, Node}
use Rattle.md_pattern.specs.Shape.{Claim, EachNode, IsShapedNode, AreShaped}
use Rattle.md_tree.specs.Rules.{MeetsRules, MeetRules}

-- a node has its shape and meets the rules
abbrev pub IsFine : List ℕ → List (List ℕ × List ℕ) → Claim
IsFine bytes names around before name start end children =
    IsShapedNode around before name start end children
    × MeetsRules bytes names around before name start end children

abbrev pub AreFine : List ℕ → List (List ℕ × List ℕ) → Forest → Role → Option Symbol → Type 0
AreFine bytes names forest around before = EachNode (IsFine bytes names) forest around before

pub fine : (bytes : List ℕ) (names : List (List ℕ × List ℕ)) (forest : Forest) (around : Role)
    (before : Option Symbol) → AreShaped forest around before →
    MeetRules bytes names forest around before →
    AreFine bytes names forest around before
fine bytes names Empty around before shaped rules = tt
fine bytes names (Node name start end children rest) around before shaped rules =
    grind (arith, fine bytes names children, fine bytes names rest)

pub shaped : (bytes : List ℕ) (names : List (List ℕ × List ℕ)) (forest : Forest) (around : Role)
    (before : Option Symbol) → AreFine bytes names forest around before →
    AreShaped forest around before
shaped bytes names Empty around before all = tt
shaped bytes names (Node name start end children rest) around before all =
    (all.0.0, shaped bytes names children _ _ all.1, shaped bytes names rest _ _ all.2)
