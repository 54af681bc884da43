-- The open nodes of a course are those of a path: where a course stands after some events.
use Rattle.std.proofs.Common.{arith, ◌≡◌, Bool, true, cond, Option, Some, None, List, [], ◌∷◌, ◌++◌}
use Rattle.std.proofs.Common.{refl, sym, ap, ◌∙◌, append_assoc}
use Rattle.md_tree.proofs.Common.{Event, Symbol, Role, Flow, Standing, Solid, Referral, Missing}
use Rattle.md_tree.proofs.Common.{State, Entry, Open, Outer, Forest, Empty, Node, flatten}
use Rattle.md_tree.proofs.Common.{standing_of, spine, Claim, EachNode, inner_role, inner_before}
use Rattle.md_tree.proofs.Common.{last_symbol, target_of, Level, opening, role_in, before_in}
use Rattle.md_tree.proofs.Common.{symbol_after, start_of, Reads, Course, entered, entered_on}
use Rattle.md_tree.proofs.Common.{beginning}
use Rattle.md_tree.proofs.Spots.{Feeds, option_map-some}
use Rattle.md_tree.proofs.NodesRead.{IsFine, Feeds-context}

-- nodes, and nodes after them
abbrev pub joined : Forest → Forest → Forest
joined Empty others = others
joined (Node name start end children rest) others =
    Node name start end children (joined rest others)

pub flatten-joined : (forest others : Forest) →
    flatten (joined forest others) ≡ flatten forest ++ flatten others
flatten-joined Empty others = refl
flatten-joined (Node name start end children rest) others =
    grind (arith, flatten-joined rest others, append_assoc)

pub spine-joined : (forest others : Forest) →
    spine (joined forest others) ≡ spine forest ++ spine others
spine-joined Empty others = refl
spine-joined (Node name start end children rest) others =
    grind (arith, spine-joined rest others, append_assoc)

pub target_of-joined : (forest others : Forest) (found : Referral) →
    target_of (joined forest others) found ≡ target_of others (target_of forest found)
target_of-joined Empty others found = refl
target_of-joined (Node name start end children rest) others found =
    target_of-joined rest others _

last_symbol-append : (before : Option Symbol) (symbols others : List Symbol) →
    last_symbol before (symbols ++ others) ≡ last_symbol (last_symbol before symbols) others
last_symbol-append before [] others = refl
last_symbol-append before (symbol ∷ symbols) others =
    last_symbol-append _ symbols others

pub EachNode-joined :
    (P : Claim) (forest others : Forest) (around : Role) (before : Option Symbol) →
    EachNode P forest around before → EachNode P others around (last_symbol before (spine forest)) →
    EachNode P (joined forest others) around before
EachNode-joined P Empty others around before each more = more
EachNode-joined P (Node name start end children rest) others around before each more =
    grind (arith, EachNode-joined P rest, last_symbol-append)

-- the open nodes of a course are those of a path, and the innermost one's children begin with this
-- state and target
abbrev pub Stands : List Level → List Open → State → Referral → Type 0
Stands [] [] state target = (state ≡ start_of Flow) × (target ≡ Missing)
Stands [] (open_node ∷ others) state target = ⊥
Stands (level ∷ path) [] state target = ⊥
Stands (level ∷ path) (open_node ∷ others) state target =
    (around : State) × (found : Referral) × (here : State) × Stands path others around found
    × Feeds around (spine level.before) here × (open_node.name ≡ level.name)
    × (open_node.start ≡ level.start)
    × (entered (standing_of level.name) here (target_of level.before found)
    ≡ Some (record { state = state; target = target; outer = open_node.outer }))

-- the whole nodes before each open one are fine
abbrev pub IsFinePath : Reads → List Level → Type 0
IsFinePath holds [] = Unit {0}
IsFinePath holds (level ∷ path) =
    EachNode (IsFine holds) level.before (role_in path) (before_in path) × IsFinePath holds path

-- where a course stands after these events
pub record Reached (holds : Reads) (events : List Event) (course : Course) : Type 0 where
  pub path : List Level
  pub nodes : Forest
  pub base : State
  pub found : Referral
  pub stands : Stands path course.open_nodes base found
  pub feeds : Feeds base (spine nodes) course.state
  pub target_is : course.target ≡ target_of nodes found
  pub events_are : events ≡ opening path ++ flatten nodes
  pub path_fine : IsFinePath holds path
  pub nodes_fine : EachNode (IsFine holds) nodes base.role base.before

pub Reached-beginning : (holds : Reads) → Reached holds [] beginning
Reached-beginning holds = record {
  path = [];
  nodes = Empty;
  base = start_of Flow;
  found = Missing;
  stands = (refl, refl);
  feeds = refl;
  target_is = refl;
  events_are = refl;
  path_fine = tt;
  nodes_fine = tt;
}

pub may_hold_true : (b : Bool) (o : Option Entry) (entry : Entry) → cond b o None ≡ Some entry →
    (b ≡ true) × (o ≡ Some entry)
may_hold_true b o entry e = grind arith

-- the context of a node's children
pub entered_context : (standing : Standing) (state : State) (target : Referral) (entry : Entry) →
    entered_on standing state target ≡ Some entry →
    (entry.state.role ≡ inner_role standing state.role state.before)
    × (entry.state.before ≡ inner_before standing state.before)
entered_context (Solid symbol usual reading) state target entry e =
    let m = option_map-some _ _ entry e in
    (ap (λ (n : Entry). n.state.role) (sym m.2), ap (λ (n : Entry). n.state.before) (sym m.2))
entered_context _ state target entry e = grind arith

-- the context of the innermost open node's children
level_context :
    (path : List Level) (level : Level) (around here state : State) (found target : Referral)
    (outer : Option Outer) → around.role ≡ role_in path → around.before ≡ before_in path →
    Feeds around (spine level.before) here → entered (standing_of level.name) here found
    ≡ Some (record { state = state; target = target; outer = outer }) →
    (state.role ≡ role_in (level ∷ path)) × (state.before ≡ before_in (level ∷ path))
level_context path level around here state found target outer r b feeds e =
    let st = standing_of level.name in
    let on = may_hold_true _ _ _ e in
    let inner =
    entered_context st here found _ on.1 in
    let context = Feeds-context around here _ feeds in
    let role_here : here.role ≡ role_in path = context.0 ∙ r in
    let before_here : here.before ≡ symbol_after (before_in path) level.before = context.1
    ∙ ap (λ b. last_symbol b (spine level.before)) b in (
      inner.0 ∙ ap (λ r. inner_role st r here.before) role_here
          ∙ ap (λ b. inner_role st (role_in path) b) before_here,
      inner.1 ∙ ap (λ b. inner_before st b) before_here,
    )

pub Stands-context : (path : List Level) (opens : List Open) (state : State) (target : Referral) →
    Stands path opens state target → (state.role ≡ role_in path) × (state.before ≡ before_in path)
Stands-context (level ∷ path) (open_node ∷ others) state target stands =
    let outer = Stands-context path others stands.0 stands.1 stands.3 in
    level_context path level stands.0 stands.2 state _ target open_node.outer outer.0
    outer.1 stands.4 stands.7
Stands-context _ _ state target stands = grind arith

pub path_none : (path : List Level) (opens : List Open) (state : State) (target : Referral) →
    opens ≡ [] → Stands path opens state target → (path ≡ []) × (state ≡ start_of Flow)
path_none [] opens state target none stands = grind arith
path_none (level ∷ path) opens state target none stands = grind arith
