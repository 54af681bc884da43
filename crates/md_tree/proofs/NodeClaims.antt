-- Claims on nodes, one from another: that they have their shape, and that they meet the rules.
use Rattle.std.proofs.Common.{arith, ◌≡◌, ℕ, Option, None, List, [], ◌∷◌, refl}
use Rattle.md_tree.proofs.Common.{Point, Symbol, Role, Standing, Referral, Missing, Forest, Empty}
use Rattle.md_tree.proofs.Common.{Node, standing_of, Claim, EachNode, IsShapedNode, AreShaped}
use Rattle.md_tree.proofs.Common.{reading_of, broken_rule, MeetRules, target_of, Level, Reads}
use Rattle.md_tree.proofs.Common.{Anything, Unbroken}
use Rattle.md_tree.specs.Rules.{MeetsRules}
use Rattle.md_tree.specs.Refusal.{IsShapedPath}
use Rattle.md_tree.proofs.NodesRead.{IsReadWhere, IsFine, AllowsFree, EachNode-map}
use Rattle.md_tree.proofs.OpenPaths.{IsFinePath}

pub shaped_anything : (forest : Forest) (around : Role) (before : Option Symbol) →
    EachNode IsShapedNode forest around before → EachNode (IsFine Anything) forest around before
shaped_anything forest around before each = grind (arith, EachNode-map)

EachNode-both : (P Q : Claim) → (forest : Forest) (around : Role) (before : Option Symbol) →
    EachNode P forest around before → EachNode Q forest around before →
    EachNode (λ r b name start end children. P r b name start end children
    × Q r b name start end children) forest around before
EachNode-both P Q Empty around before p q = tt
EachNode-both P Q (Node name start end children rest) around before p q =
    grind (arith, EachNode-both P Q children _ _ p.1 q.1, EachNode-both P Q rest around _ p.2 q.2)

module _ (bytes : List ℕ) (names : List (List ℕ × List ℕ)) where
  reads_unbroken : (standing : Standing) (around : Role)
      (before : Option Symbol) (start end : Point) (target : Referral) →
      broken_rule bytes names (reading_of standing) around before start end target ≡ None →
      IsReadWhere (Unbroken bytes names) standing around before start end target
  reads_unbroken standing around before start end target e = grind arith

  pub fine_unbroken : (forest : Forest) (around : Role) (before : Option Symbol) →
      AreShaped forest around before → MeetRules bytes names forest around before →
      EachNode (IsFine (Unbroken bytes names)) forest around before
  fine_unbroken forest around before shaped meets =
      EachNode-map (λ r b name start end children. IsShapedNode r b name start end children
      × MeetsRules bytes names r b name start end children) (IsFine _)
      (λ r b name start end children p. (
        p.0,
        reads_unbroken (standing_of name) r b start end (target_of children Missing) p.1,
      )) forest around before (EachNode-both IsShapedNode _ forest around before shaped meets)

pub fine_shaped : (holds : Reads) (forest : Forest) (around : Role) (before : Option Symbol) →
    EachNode (IsFine holds) forest around before → AreShaped forest around before
fine_shaped holds forest around before fine = grind (arith, EachNode-map)

pub fine_meets : (bytes : List ℕ) (names : List (List ℕ × List ℕ)) (forest : Forest) (around : Role)
    (before : Option Symbol) → EachNode (IsFine (Unbroken bytes names)) forest around before →
    MeetRules bytes names forest around before
fine_meets bytes names forest around before fine = grind (arith, EachNode-map)

pub fine_path_shaped : (holds : Reads) (path : List Level) →
    IsFinePath holds path → IsShapedPath path
fine_path_shaped holds [] fine = tt
fine_path_shaped holds (level ∷ path) fine = grind (arith, fine_path_shaped holds path, fine_shaped)

pub free_anything : AllowsFree Anything
free_anything around before start end target = tt

pub free_unbroken : (bytes : List ℕ) (names : List (List ℕ × List ℕ)) →
    AllowsFree (Unbroken bytes names)
free_unbroken bytes names around before start end target = refl
