-- What has been read is whole nodes and open ones.
use Rattle.std.proofs.Common.{subst, arith, ◌≡◌, true, Option, Some, List, [], ◌∷◌, ◌++◌, refl, sym}
use Rattle.std.proofs.Common.{ap, ◌∙◌, append_assoc, append-nil}
use Rattle.md_tree.proofs.Common.{Point, Name, Event, Referral, State, Entry, Open, Outer, Forest}
use Rattle.md_tree.proofs.Common.{Empty, Node, flatten, entering, exiting, standing_of, spine}
use Rattle.md_tree.proofs.Common.{EachNode, inner_role, inner_before, target_of, Level, opening}
use Rattle.md_tree.proofs.Common.{may_hold, Reads, Course, Exits, ExitsWhere, after_entry, entered}
use Rattle.md_tree.proofs.Common.{entered_on}
use Rattle.md_tree.proofs.Spots.{Feeds, Feeds-append}
use Rattle.md_tree.proofs.NodesRead.{IsFine, Feeds-context}
use Rattle.md_tree.proofs.OpenPaths.{Reached, Stands-context, Stands, IsFinePath, may_hold_true}
use Rattle.md_tree.proofs.OpenPaths.{entered_context, joined, flatten-joined, spine-joined}
use Rattle.md_tree.proofs.OpenPaths.{target_of-joined, EachNode-joined}
use Rattle.md_tree.proofs.ClosedNodes.{Closed, closed}

-- a node is entered
pub Reached-enter : (holds : Reads) (events : List Event) (from : Course) (name : Name)
    (start : Point) (entry : Entry) → Reached holds events from →
    entered (standing_of name) from.state from.target ≡ Some entry →
    Reached holds (events ++ entering name start ∷ []) (after_entry entry name start from)
Reached-enter holds events from name start entry reached e =
    let level : Level = record { before = reached.nodes; name = name; start = start } in
    let context =
    Stands-context reached.path from.open_nodes reached.base reached.found reached.stands in
    record {
      path = level ∷ reached.path;
      nodes = Empty;
      base = entry.state;
      found = entry.target;
      stands = (
        reached.base,
        reached.found,
        from.state,
        reached.stands,
        reached.feeds,
        refl,
        refl,
        rw (← reached.target_is) e,
      );
      feeds = refl;
      target_is = refl;
      events_are = ap (λ es. es ++ entering name start ∷ []) reached.events_are
          ∙ sym (append-nil _);
      path_fine = (rw (← context.0, ← context.1) reached.nodes_fine, reached.path_fine);
      nodes_fine = tt;
    }

-- the innermost open node is left
pub record Left (holds ending : Reads) (events : List Event) (name : Name) (point : Point)
    (from to : Course) : Type 0 where
  pub path : List Level
  pub level : Level
  pub nodes : Forest
  pub around : State
  pub here : State
  pub base : State
  pub found : Referral
  pub inner : Referral
  pub open_node : Open
  pub others : List Open
  pub stands : Stands path others around found
  pub feeds : Feeds around (spine level.before) here
  pub name_is : level.name ≡ name
  pub start_is : open_node.start ≡ level.start
  pub may : may_hold here.role ≡ true
  pub entered_is : entered_on (standing_of level.name) here (target_of level.before found)
      ≡ Some (record { state = base; target = inner; outer = open_node.outer })
  pub inside : Feeds base (spine nodes) from.state
  pub target_is : from.target ≡ target_of nodes inner
  pub opens_are : from.open_nodes ≡ open_node ∷ others
  pub exits : ExitsWhere ending open_node.outer level.start point others from to
  pub events_are : events ≡ opening (level ∷ path) ++ flatten nodes
  pub path_fine : IsFinePath holds (level ∷ path)
  pub nodes_fine : EachNode (IsFine holds) nodes base.role base.before

module _ {holds : Reads} (ending : Reads) {events : List Event} (name : Name) (point : Point)
    {from : Course} (to : Course) where
  left_from : (path : List Level) (opens : List Open) (nodes : Forest) (base : State)
      (found : Referral) → from.open_nodes ≡ opens → Stands path opens base found →
      Feeds base (spine nodes) from.state → from.target ≡ target_of nodes found →
      events ≡ opening path ++ flatten nodes → IsFinePath holds path →
      EachNode (IsFine holds) nodes base.role base.before → Exits ending opens name point from to →
      Left holds ending events name point from to
  left_from (level ∷ path) (open_node ∷ others) nodes base found opens_are stands feeds target
      events_are path_fine fine exits =
      grind (arith, may_hold_true)
  left_from _ _ nodes base found opens_are stands feeds
      target events_are path_fine fine exits = grind arith

  pub Reached-left : Reached holds events from →
      Exits ending from.open_nodes name point from to → Left holds ending events name point from to
  Reached-left reached exits = grind (arith, left_from)

module _ {holds ending : Reads} {events : List Event} {name : Name} {point : Point}
    {from to : Course} where
  pub Left-closed : (left : Left holds ending events name point from to) →
      Closed ending (standing_of left.level.name) left.level.name left.level.start point left.nodes
      left.here to.state (target_of left.level.before left.found) to.target
  Left-closed left =
      closed holds ending left.level.name left.level.start point left.nodes left.here left.base _
      left.inner left.open_node.outer left.others from to left.may left.nodes_fine left.inside
      left.target_is left.exits _ left.entered_is

  -- the inner context of a node that is left, by the spine around it
  pub Left-inner : (left : Left holds ending events name point from to) → EachNode (IsFine holds)
      left.nodes (inner_role (standing_of left.level.name) left.here.role left.here.before)
      (inner_before (standing_of left.level.name) left.here.before)
  Left-inner left =
      let context = entered_context _ left.here _ _ left.entered_is in
      rw (← context.0, ← context.1) left.nodes_fine

exits_open : (ending : Reads) (waiting : Option Outer) (start point : Point) (others : List Open)
    (from to : Course) →
    ExitsWhere ending waiting start point others from to → to.open_nodes ≡ others
exits_open ending waiting start point others from to exits = grind arith

events_joined : (a b c : List Event) (x y : Event) → ((((a ++ b) ++ x ∷ []) ++ c) ++ y ∷ []) ≡ a
    ++ (b ++ (x ∷ c ++ y ∷ []))
events_joined a b c x y = grind (arith, append_assoc)

-- a node is left
pub Reached-exit : (holds : Reads) (events : List Event) (name : Name) (point : Point)
    (from to : Course) →
    Reached holds events from → Exits holds from.open_nodes name point from to →
    Reached holds (events ++ exiting name point ∷ []) to
Reached-exit holds events name point from to reached exits =
    let left = Reached-left holds name point to reached exits in
    let level = left.level in
    let closed_here = Left-closed left in
    let stands : Stands left.path to.open_nodes left.around left.found =
    subst (λ os. Stands left.path os left.around left.found)
    (sym (exits_open holds left.open_node.outer level.start point left.others from to left.exits))
    left.stands in
    let node = Node level.name level.start point left.nodes Empty in
    let context = Feeds-context left.around left.here (spine level.before) left.feeds in
    let outer = Stands-context left.path to.open_nodes left.around left.found stands in
    let node_fine : EachNode (IsFine holds) node left.here.role left.here.before = (
      ((closed_here.apart, closed_here.shaped), closed_here.read),
      Left-inner left,
      tt,
    ) in
    record {
      path = left.path;
      nodes = joined level.before node;
      base = left.around;
      found = left.found;
      stands = stands;
      feeds = rw (spine-joined level.before node) (Feeds-append left.around left.here to.state _ _
          left.feeds (rw append-nil closed_here.feeds));
      target_is = closed_here.target_is ∙ sym (target_of-joined level.before node left.found);
      events_are = cc (
        left.events_are,
        left.name_is,
        flatten-joined level.before node,
        events_joined (opening left.path) (flatten level.before) (flatten left.nodes)
            (entering level.name level.start) (exiting level.name point),
      );
      path_fine = left.path_fine.1;
      nodes_fine = EachNode-joined _ level.before node left.around.role left.around.before
          (rw (outer.0, outer.1) left.path_fine.0) (rw (← context.0, ← context.1) node_fine);
    }
