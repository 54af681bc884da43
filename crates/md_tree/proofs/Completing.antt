-- What has been read without an error begins a tree with the shape of the grammar: the
-- innermost spine is completed by the least nodes that its pattern still needs, its node ends,
-- and so outwards. First: open nodes wait for spines on which nodes may stand, and no event leaves
-- this.
use Rattle.std.proofs.Common.{arith, ◌≡◌, Bool, cond, Option, Some, None, MatchOption, List, []}
use Rattle.std.proofs.Common.{◌∷◌, refl, subst, true, ◌++◌, sym, ap, ◌∙◌}
use Rattle.md_tree.proofs.Common.{Point, Name, Kind, Enter, Exit, Event, Standing, may_hold, Reads}
use Rattle.md_tree.proofs.Common.{Outer, Open, Entry, Course, Runs, StepsBy, Exits, after_entry}
use Rattle.md_tree.proofs.Common.{entered_on, Forest, flatten, exiting, EachNode, IsShaped}
use Rattle.md_tree.proofs.Common.{is_complete, after_exit, after_through, beginning, Anything}
use Rattle.md_tree.proofs.Common.{opening}
use Rattle.md_tree.proofs.LeastNodes.{IsSettled, somewhere, completion, completed}
use Rattle.md_pattern.specs.declared.kinds.Role.TheVariants as role
use Rattle.md_tree.specs.Refusal.{BeginTree}
use Rattle.md_tree.proofs.Patterns.{and_left}
use Rattle.md_tree.proofs.SpinesRead.{matches_feeds, whole_stage}
use Rattle.md_tree.proofs.NodesRead.{IsFine, after_nodes, Runs-append}
use Rattle.md_tree.proofs.OpenPaths.{path_none}
use Rattle.md_tree.proofs.NodeClaims.{fine_shaped}
use Rattle.md_tree.proofs.Verdicts.{Reached-runs, anything_runs}

-- ---- open nodes wait for spines on which nodes may stand
abbrev pub WaitsSettled : Option Outer → Type 0
WaitsSettled None = Unit {0}
WaitsSettled (Some outer) = IsSettled outer.state

abbrev pub AreSettled : List Open → Type 0
AreSettled [] = Unit {0}
AreSettled (open_node ∷ others) = WaitsSettled open_node.outer × AreSettled others

abbrev pub HasSettled : Course → Type 0
HasSettled course = IsSettled course.state × AreSettled course.open_nodes

-- ---- no event leaves this
settled_enter : (standing : Standing) (named : Name) (point : Point) (from to : Course) →
    HasSettled from → (b : Bool) → may_hold from.state.role ≡ b → (o : Option Entry) →
    entered_on standing from.state from.target ≡ o →
    MatchOption (cond b o None) ⊥ (λ entry. to ≡ after_entry entry named point from) → HasSettled to
settled_enter standing named point from to settled b holds o is enters = grind arith

module _ (holds : Reads) where
  settled_step : (kind : Kind) (named : Name) (point : Point) (from to : Course) → HasSettled from →
      StepsBy holds kind named point from to → HasSettled to
  settled_step Enter named point from to settled step =
      settled_enter _ named point from to settled _ refl _ refl step
  settled_step Exit named point from to settled step = grind arith

  pub settled_runs : (events : List Event) (from to : Course) → HasSettled from →
      Runs holds events from to → HasSettled to
  settled_runs [] from to settled runs = subst HasSettled runs settled
  settled_runs (event ∷ events) from to settled runs =
      settled_runs events runs.0 to
      (settled_step event.kind event.name event.point from runs.0 settled runs.1) runs.2

-- ---- from where nodes are open to the end of a document

-- events that end all that is open
pub record Closing (from : Course) : Type 0 where
  pub more : List Event
  pub to : Course
  pub runs : Runs Anything more from to
  pub none_open : to.open_nodes ≡ []
  pub complete : is_complete to.state ≡ true

-- the innermost node ends
pub record Leaving (open_node : Open) (others : List Open) (from : Course) : Type 0 where
  pub to : Course
  pub exits : Exits Anything (open_node ∷ others) open_node.name somewhere from to
  pub opens : to.open_nodes ≡ others
  pub settled : IsSettled to.state

leaving : (open_node : Open) (others : List Open) (from : Course) (outer : Option Outer) →
    open_node.outer ≡ outer →
    is_complete from.state ≡ true → WaitsSettled outer → Leaving open_node others from
leaving open_node others from None is complete waits = record {
  to = after_through others from;
  exits = (refl, rw is);
  opens = refl;
  settled = λ _. whole_stage from.state.stage (and_left _ _ complete);
}
leaving open_node others from (Some outer) is complete waits =
    let to = after_exit outer open_node.start somewhere others from in
    record {
      to = to;
      exits = (refl, rw is (complete, tt, refl));
      opens = refl;
      settled = waits;
    }

closing : (opens : List Open) (from : Course) → from.open_nodes ≡ opens → IsSettled from.state →
    AreSettled opens → Closing from
closing [] from none settled waits =
    let inside = completed from settled in
    record {
      more = flatten (completion from.state);
      to = after_nodes (completion from.state) inside.end from;
      runs = inside.runs;
      none_open = none;
      complete = inside.complete;
    }
closing (open_node ∷ others) from opens settled waits =
    let inside = completed from settled in
    let last = after_nodes (completion from.state) inside.end from in
    let left = leaving open_node others last open_node.outer refl inside.complete waits.0 in
    let rest = closing others left.to left.opens left.settled waits.1 in
    record {
      more = flatten _ ++ exiting open_node.name somewhere ∷ rest.more;
      to = rest.to;
      runs = Runs-append Anything _ _ from last rest.to inside.runs (
        left.to,
        subst (λ os. Exits Anything os open_node.name somewhere last left.to)
            (sym opens) left.exits,
        rest.runs,
      );
      none_open = rest.none_open;
      complete = rest.complete;
    }

-- ---- a document

-- events after which nothing is open are a document's, which has its shape
pub record IsDone (holds : Reads) (events : List Event) : Type 0 where
  pub forest : Forest
  pub flattened : flatten forest ≡ events
  pub fine : EachNode (IsFine holds) forest role.Flow None
  pub shape : IsShaped forest

pub IsDone-runs : (holds : Reads) (events : List Event) (course : Course) →
    Runs holds events beginning course →
    course.open_nodes ≡ [] → is_complete course.state ≡ true → IsDone holds events
IsDone-runs holds events course runs none complete =
    let reached = Reached-runs holds events course runs in
    let path = path_none reached.path course.open_nodes reached.base reached.found none
    reached.stands in
    let fine = rw path.1 at reached.nodes_fine in
    let feeds = rw path.1 at reached.feeds in
    record {
      forest = reached.nodes;
      flattened = sym (reached.events_are ∙ ap (λ p. opening p ++ flatten reached.nodes) path.0);
      fine = fine;
      shape = (
        fine_shaped holds reached.nodes role.Flow None fine,
        matches_feeds role.Flow _ course.state feeds complete,
      );
    }

-- events that are read without an error begin a document with the shape of the grammar
pub BeginTree-runs : (holds : Reads) (events : List Event) (course : Course) →
    Runs holds events beginning course → BeginTree events
BeginTree-runs holds events course runs =
    let settled = settled_runs holds events beginning course ((λ _. refl), tt) runs in
    let on = closing course.open_nodes course refl settled.0 settled.1 in
    let done = IsDone-runs Anything (events ++ on.more) on.to
    (Runs-append Anything events on.more beginning course on.to
    (anything_runs holds events beginning course runs) on.runs) on.none_open on.complete in
    (done.forest, on.more, done.shape, done.flattened)
