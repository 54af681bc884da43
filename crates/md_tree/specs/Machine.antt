-- The check as a machine over events: one small state for each open node.
use Rattle.std.specs.Prelude.{◌≡◌, ℕ, suc, if◌then◌else◌, Option, Some, None, option_map, List, []}
use Rattle.std.specs.Prelude.{◌∷◌, IsTrue, MatchOption}
use Rattle.md_base.specs.declared.event.Point.{Point}
use Rattle.md_base.specs.declared.event.Name.{Name}
use Rattle.md_base.specs.declared.event.Event.{Event}
use Rattle.md_base.specs.declared.event.Kind.{Kind}
use Rattle.md_base.specs.declared.event.Kind.TheVariants.{Enter, Exit}
use Rattle.md_pattern.specs.declared.kinds.Symbol.{Symbol}
use Rattle.md_pattern.specs.declared.kinds.Role.{Role}
use Rattle.md_pattern.specs.declared.kinds.Role.TheVariants as role
use Rattle.md_pattern.specs.declared.kinds.Standing.{Standing}
use Rattle.md_pattern.specs.declared.kinds.Standing.TheVariants.{Through, Space, Solid, Mdx}
use Rattle.md_pattern.specs.declared.kinds.Reading.{Reading}
use Rattle.md_pattern.specs.declared.kinds.Reading.TheVariants.{Free}
use Rattle.md_tree.specs.declared.mention.Referral.{Referral}
use Rattle.md_tree.specs.declared.mention.Referral.TheVariants.{Missing}
use Rattle.md_tree.specs.declared.mention.Mentioned.{Mentioned}
use Rattle.md_pattern.specs.declared.state.State.{State}
use Rattle.md_pattern.specs.Standing.{standing_of}
use Rattle.md_pattern.specs.Shape.{role_for}
use Rattle.md_pattern.specs.Steps.{advance, is_complete, may_hold, start_of}
use Rattle.md_tree.specs.Rules.{place, target_at}
use Rattle.md_tree.specs.Mentions.{mention_of, mentions_with}

-- the state that a node with its own spine saves until it ends: its parent's spine with the node,
-- the symbol before it, the target of that spine so far, and what is read of the node
pub record Outer : Type 0 where
  pub state : State
  pub before : Option Symbol
  pub target : Referral
  pub reading : Reading

-- an open node; a transparent one saves no state
pub record Open : Type 0 where
  pub name : Name
  pub start : Point
  pub outer : Option Outer

-- the state at the beginning of a node's children
pub record Entry : Type 0 where
  pub state : State
  pub target : Referral
  pub outer : Option Outer

-- the state at the beginning of a node's children, if the node may occur on this spine
abbrev pub entered_on : Standing → State → Referral → Option Entry
entered_on Through state target = Some (record { state = state; target = target; outer = None })
entered_on Space state target =
    Some (record {
      state = start_of role.Childless;
      target = Missing;
      outer =
          Some (record { state = state; before = state.before; target = target; reading = Free });
    })
entered_on (Solid symbol usual reading) state target =
    option_map (λ next. record {
      state = start_of (role_for state.role state.before usual);
      target = Missing;
      outer =
          Some (record { state = next; before = state.before; target = target; reading = reading });
    })
    (advance state symbol)
entered_on Mdx state target = None

-- the same, if the parent may have children
abbrev pub entered : Standing → State → Referral → Option Entry
entered standing state target =
    if may_hold state.role then entered_on standing state target else None

-- the state after events: how many there were, their mentions, and the open nodes, the innermost
-- first
pub record Course : Type 0 where
  pub state : State
  pub target : Referral
  pub open_nodes : List Open
  pub count : ℕ
  pub mentions : List Mentioned

-- the state after an entering event
abbrev pub after_entry : Entry → Name → Point → Course → Course
after_entry entry name point course = record {
  state = entry.state;
  target = entry.target;
  open_nodes = record { name = name; start = point; outer = entry.outer } ∷ course.open_nodes;
  count = suc course.count;
  mentions = course.mentions;
}

-- the state after the exit of a transparent node
abbrev pub after_through : List Open → Course → Course
after_through others course = record {
  state = course.state;
  target = course.target;
  open_nodes = others;
  count = suc course.count;
  mentions = course.mentions;
}

-- the state after the exit of another node
abbrev pub after_exit : Outer → Point → Point → List Open → Course → Course
after_exit outer start end others course = record {
  state = outer.state;
  target = target_at outer.reading outer.target course.target (place start end);
  open_nodes = others;
  count = suc course.count;
  mentions = mentions_with course.count (mention_of outer.reading course.target) course.mentions;
}

-- a claim about nodes on a spine: by what is read of each, the role of its parent, the symbol
-- before it, its start, end and target
abbrev pub Reads : Type 1
Reads = Reading → Role → Option Symbol → Point → Point → Referral → Type 0

-- the exit of a node with this saved state
abbrev pub ExitsWhere : Reads → Option Outer → Point → Point → List Open → Course → Course → Type 0
ExitsWhere holds None start end others from to = to ≡ after_through others from
ExitsWhere holds (Some outer) start end others from to =
    IsTrue (is_complete from.state)
    × holds outer.reading outer.state.role outer.before start end from.target
    × (to ≡ after_exit outer start end others from)

-- an exiting event: it exits the innermost open node
abbrev pub Exits : Reads → List Open → Name → Point → Course → Course → Type 0
Exits holds [] name point from to = ⊥
Exits holds (open_node ∷ others) name point from to =
    (open_node.name ≡ name) × ExitsWhere holds open_node.outer open_node.start point others from to

-- an entering event
abbrev pub Enters : Name → Point → Course → Course → Type 0
Enters name point from to =
    MatchOption (entered (standing_of name) from.state from.target) ⊥
    (λ entry. to ≡ after_entry entry name point from)

-- an event
abbrev pub StepsBy : Reads → Kind → Name → Point → Course → Course → Type 0
StepsBy holds Enter name point from to = Enters name point from to
StepsBy holds Exit name point from to = Exits holds from.open_nodes name point from to

abbrev pub Steps : Reads → Event → Course → Course → Type 0
Steps holds event from to = StepsBy holds event.kind event.name event.point from to

-- events, in order
abbrev pub Runs : Reads → List Event → Course → Course → Type 0
Runs holds [] from to = from ≡ to
Runs holds (event ∷ events) from to =
    (next : Course) × Steps holds event from next × Runs holds events next to

-- the state before any event
abbrev pub beginning : Course
beginning = record {
  state = start_of role.Flow;
  target = Missing;
  open_nodes = [];
  count = 0;
  mentions = [];
}
