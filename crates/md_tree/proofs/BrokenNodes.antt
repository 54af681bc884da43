-- A node that breaks a rule where it ends: what follows of the events up to there.
use Rattle.std.proofs.Common.{arith, ◌≡◌, ℕ, Option, Some, None, List, [], ◌∷◌, ◌++◌, sym, ap, ◌∙◌}
use Rattle.std.proofs.Common.{subst, append_assoc}
use Rattle.md_tree.proofs.Common.{Point, Name, Event, Standing, Referral, Missing, Rule, State}
use Rattle.md_tree.proofs.Common.{Open, Outer, Forest, Empty, Node, exiting, standing_of, spine}
use Rattle.md_tree.proofs.Common.{AreShaped, broken_rule, reading_of, target_of, symbol_after}
use Rattle.md_tree.proofs.Common.{EndsBroken, Course, Exits, ExitsWhere, entered_on, Unbroken}
use Rattle.md_tree.proofs.Common.{BreaksWhere, BreaksAtExit}
use Rattle.md_tree.specs.Walk.{Broken}
use Rattle.md_tree.proofs.NodesRead.{Feeds-context}
use Rattle.md_tree.proofs.OpenPaths.{Stands-context, Reached}
use Rattle.md_tree.proofs.Paths.{Reached-left, Left-closed, Left-inner}
use Rattle.md_tree.proofs.ClosedNodes.{Closed}
use Rattle.md_tree.proofs.NodeClaims.{fine_shaped, fine_path_shaped}

module _ (bytes : List ℕ) (names : List (List ℕ × List ℕ)) (broken : Rule) where
  exits_broken_where : (outer : Option Outer) (start point : Point) (others : List Open)
      (course : Course) → BreaksWhere bytes names broken outer start point course →
      (next : Course) × ExitsWhere (Broken bytes names broken) outer start point others course next
  exits_broken_where None start point others course breaks = absurd breaks
  exits_broken_where (Some outer) start point others course breaks = grind arith

  exits_broken : (opens : List Open) (name : Name)
      (point : Point) (course : Course) → BreaksAtExit bytes names broken opens name point course →
      (next : Course) × Exits (Broken bytes names broken) opens name point course next
  exits_broken [] name point course breaks = absurd breaks
  exits_broken (open_node ∷ others) name point course breaks =
      let inside = exits_broken_where open_node.outer open_node.start point
      others course breaks.1 in
      (inside.0, (breaks.0, inside.1))

  broken_there : (standing : Standing) (name : Name) (start end : Point) (children : Forest)
      (here after base : State) (found inner target : Referral)
      (waiting : Option Outer) (course : Course) → entered_on standing here found
      ≡ Some (record { state = base; target = inner; outer = waiting }) →
      BreaksWhere bytes names broken waiting start end course →
      Closed (Broken bytes names broken) standing name start end children here after found target →
      broken_rule bytes names (reading_of standing) here.role here.before start end
      (target_of children Missing) ≡ Some broken
  broken_there standing name start end children here after base found inner target
      waiting course e breaks closed = grind arith

  events_ended : (a c : List Event) (x y : Event) →
      (((a ++ x ∷ []) ++ c) ++ y ∷ []) ≡ a ++ (x ∷ c ++ y ∷ [])
  events_ended a c x y = append_assoc _ c (y ∷ []) ∙ append_assoc a (x ∷ []) _

  -- the node that ends breaks the rule
  pub EndsBroken-exit : (seen : List Event)
      (name : Name) (point : Point) (course : Course) → Reached (Unbroken bytes names) seen course →
      BreaksAtExit bytes names broken course.open_nodes name point course →
      EndsBroken bytes names (seen ++ exiting name point ∷ []) broken
  EndsBroken-exit seen name point course reached breaks =
      let holds = Unbroken bytes names in
      let ending = Broken bytes names broken in
      let exits = exits_broken course.open_nodes name point course breaks in
      let next = exits.0 in
      let left = Reached-left ending name point next reached exits.1 in
      let level = left.level in
      let closed = Left-closed left in
      let outer = Stands-context left.path left.others left.around left.found left.stands in
      let context = Feeds-context left.around left.here (spine level.before) left.feeds in
      let role_here = context.0 ∙ outer.0 in
      let before_here = context.1 ∙ ap (λ b. symbol_after b level.before) outer.1 in
      let node = Node level.name level.start point left.nodes Empty in
      let inner = fine_shaped holds left.nodes _ _ (Left-inner left) in
      let shaped_here : AreShaped node left.here.role left.here.before =
      ((closed.apart, closed.shaped), inner, tt) in
      let breaks_here = broken_there (standing_of level.name) level.name level.start point
      left.nodes left.here next.state left.base (target_of level.before left.found) left.inner
      next.target left.open_node.outer course left.entered_is
      (rw left.start_is at
      (subst (λ os. BreaksAtExit bytes names broken os name point course) left.opens_are breaks).1)
      closed in
      record {
        path = left.path;
        nodes = level.before;
        name = level.name;
        start = level.start;
        end = point;
        children = left.nodes;
        events_are = ap (λ n. seen ++ exiting n point ∷ []) (sym left.name_is)
            ∙ ap (λ es. es ++ exiting level.name point ∷ []) left.events_are ∙ events_ended _ _ _ _;
        path_shaped = (fine_path_shaped holds (level ∷ left.path) left.path_fine).1;
        nodes_shaped =
            fine_shaped holds level.before _ _ left.path_fine.0;
        shaped = rw (← role_here, ← before_here) shaped_here;
        breaks = rw (← role_here, ← before_here) breaks_here;
      }
