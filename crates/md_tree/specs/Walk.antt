-- The state of a walk over events, and why it stops.
use Rattle.std.specs.Prelude.{◌≡◌, ◌⊎◌, ℕ, suc, Bool, true, false, ◌&&◌, if◌then◌else◌, Option}
use Rattle.std.specs.Prelude.{Some, None, List, [], ◌∷◌, reverse, slice_get, IsTrue}
use Rattle.md_base.specs.declared.event.Point.{Point}
use Rattle.md_base.specs.declared.event.Position.{Position}
use Rattle.md_base.specs.declared.event.Name.{Name}
use Rattle.md_base.specs.declared.event.Event.{Event}
use Rattle.md_base.specs.declared.event.Kind.{Kind}
use Rattle.md_base.specs.declared.event.Kind.TheVariants.{Enter, Exit}
use Rattle.md_pattern.specs.declared.kinds.Standing.{Standing}
use Rattle.md_pattern.specs.declared.kinds.Standing.TheVariants as standing
use Rattle.md_tree.specs.declared.rule.Rule.{Rule}
use Rattle.md_tree.specs.declared.rule.Rule.TheVariants as rule
use Rattle.md_tree.specs.declared.rule.CompileError.{CompileError}
use Rattle.md_tree.specs.declared.rule.CompileError.TheVariants as error
use Rattle.md_tree.specs.declared.mention.Referral.{Referral}
use Rattle.md_tree.specs.declared.mention.Referral.TheVariants.{Missing, Resource, Label}
use Rattle.md_tree.specs.declared.open_nodes.Aim.{Aim}
use Rattle.md_tree.specs.declared.open_nodes.Aim.TheVariants as aim
use Rattle.md_tree.specs.declared.open_nodes.Open.{Open as KeptOpen}
use Rattle.md_tree.specs.declared.open_nodes.Outer.{Outer as KeptOuter}
use Rattle.md_pattern.specs.declared.kinds.Role.{Role}
use Rattle.md_tree.specs.declared.walk.Walk.{Walk}
use Rattle.md_pattern.specs.Standing.{standing_of}
use Rattle.md_tree.specs.Rules.{place, broken_rule}
use Rattle.md_pattern.specs.Steps.{is_complete, start_of}
use Rattle.md_pattern.specs.Places.{state_of}
use Rattle.md_tree.specs.Machine.{Reads, Outer, Open, Entry, Course, Enters, Exits}

-- the point of the event at an index
abbrev pub point_of : Option Event → Point
point_of None = record { line = 0; column = 0; index = 0; vs = 0 }
point_of (Some event) = event.point

abbrev pub point_at : List Event → ℕ → Point
point_at events index = point_of (slice_get events index)

-- the position of a node that is entered and exited at two indices
abbrev pub place_at : List Event → ℕ → ℕ → Position
place_at events entry exit = place (point_at events entry) (point_at events exit)

-- what the walk's records mean, given the events
abbrev pub target_seen : List Event → Aim → Referral
target_seen events aim.Missing = Missing
target_seen events aim.Resource = Resource
target_seen events (aim.Label entry exit) = Label (place_at events entry exit)

-- the saved state of a node whose parent has this target so far
abbrev pub outer_seen : List Event → Aim → KeptOuter → Outer
outer_seen events target outer =
    record {
      state = state_of outer.place outer.last;
      before = outer.before;
      target = target_seen events target;
      reading = outer.reading;
    }

-- the target that was saved when a node was entered, if there was one; the innermost saved target
-- is first
abbrev pub target_of : Bool → List Aim → Aim
target_of true (target ∷ targets) = target
target_of true [] = aim.Missing
target_of false targets = aim.Missing

-- the targets that its ancestors saved
abbrev pub targets_around : Bool → List Aim → List Aim
targets_around true (target ∷ targets) = targets
targets_around true [] = []
targets_around false targets = targets

-- the parent of an open node has a target that was saved
abbrev pub is_aimed : KeptOpen → Bool
is_aimed open_node = open_node.stands && open_node.aimed

abbrev pub outer_of : List Event → List Aim → KeptOpen → Outer
outer_of events targets open_node =
    outer_seen events (target_of open_node.aimed targets) open_node.outer

abbrev pub open_seen : List Event → List Aim → KeptOpen → Open
open_seen events targets open_node =
    record {
      name = open_node.name;
      start = point_at events open_node.entry;
      outer = if open_node.stands then Some (outer_of events targets open_node) else None;
    }

-- open nodes, the innermost first
abbrev pub opens_at : List Event → List Aim → List KeptOpen → List Open
opens_at events targets [] = []
opens_at events targets (open_node ∷ open_nodes) =
    open_seen events targets open_node
    ∷ opens_at events (targets_around (is_aimed open_node) targets) open_nodes

-- the open nodes; the vector has the innermost last
abbrev pub opens_seen : List Event → List Aim → List KeptOpen → List Open
opens_seen events targets open_nodes = opens_at events targets (reverse open_nodes)

-- the state at the beginning of the children of a node with this role
abbrev pub entered_at : Role → Outer → Entry
entered_at role outer = record { state = start_of role; target = Missing; outer = Some outer }

-- the state of a walk over the first `count` events
abbrev pub course_of : List Event → ℕ → Walk → Course
course_of events count walk = record {
  state = state_of walk.place walk.before;
  target = target_seen events walk.target;
  open_nodes = opens_seen events (reverse walk.targets.items) walk.open_nodes.items;
  count = count;
  mentions = walk.mentions.items;
}

-- a node without children, which is entered and exited
abbrev pub Passes : Reads → Name → Point → Point → Course → Course → Type 0
Passes holds name start end from to = (between : Course) × Enters name start from between
    × Exits holds between.open_nodes name end between to

-- any node
abbrev pub Anything : Reads
Anything reading around before start end target = Unit {0}

-- a node that breaks no rule
abbrev pub Unbroken : List ℕ → List (List ℕ × List ℕ) → Reads
Unbroken bytes names reading around before start end target =
    broken_rule bytes names reading around before start end target ≡ None

-- a node that breaks a rule
abbrev pub Broken : List ℕ → List (List ℕ × List ℕ) → Rule → Reads
Broken bytes names broken reading around before start end target =
    broken_rule bytes names reading around before start end target ≡ Some broken

-- the innermost open node would end here, and breaks the rule
abbrev pub BreaksWhere : List ℕ → List (List ℕ × List ℕ) → Rule → Option Outer → Point → Point →
    Course → Type 0
BreaksWhere bytes names broken None start end course = ⊥
BreaksWhere bytes names broken (Some outer) start end course =
    IsTrue (is_complete course.state)
    × Broken bytes names broken outer.reading outer.state.role outer.before start
    end course.target

abbrev pub BreaksAtExit : List ℕ → List (List ℕ × List ℕ) → Rule → List Open → Name → Point →
    Course → Type 0
BreaksAtExit bytes names broken [] name point course = ⊥
BreaksAtExit bytes names broken (open_node ∷ others) name point course =
    (open_node.name ≡ name)
    × BreaksWhere bytes names broken open_node.outer open_node.start point course

-- the rule that a name breaks at a place where no node may be
abbrev pub misplaced_where : Standing → Rule
misplaced_where standing.Mdx = rule.Mdx
misplaced_where _ = rule.Order

abbrev pub misplaced : Name → Rule
misplaced name = misplaced_where (standing_of name)

-- why an entering event stops a walk: nothing may occur there, or it is a name of MDX
abbrev pub StopsAtEntry : Rule → Name → Point → Course → Type 0
StopsAtEntry rule.Order name point course = (next : Course) → Enters name point course next → ⊥
StopsAtEntry rule.Mdx name point course = standing_of name ≡ standing.Mdx
StopsAtEntry _ name point course = ⊥

-- why an exiting event stops a walk: no node may end there, or its node breaks a rule
abbrev pub StopsAtExit : List ℕ → List (List ℕ × List ℕ) → Rule → Name → Point → Course → Type 0
StopsAtExit bytes names rule.Order name point course = (next : Course) →
    Exits Anything course.open_nodes name point course next → ⊥
StopsAtExit bytes names rule.Mdx name point course = ⊥
StopsAtExit bytes names broken name point course =
    BreaksAtExit bytes names broken course.open_nodes name point course

abbrev pub StopsBy : List ℕ → List (List ℕ × List ℕ) → Kind → Rule → Name → Point → Course → Type 0
StopsBy bytes names Enter broken name point course = StopsAtEntry broken name point course
StopsBy bytes names Exit broken name point course = StopsAtExit bytes names broken name point course

-- out of memory, or a rule at this event
abbrev pub IsStop : List ℕ → List (List ℕ × List ℕ) → ℕ → Kind → Name → Point → Course →
    CompileError → Type 0
IsStop bytes names index kind name point course error.Memory = Unit {0}
IsStop bytes names index kind name point course (error.Event named broken) =
    (named ≡ index) × StopsBy bytes names kind broken name point course

-- the same for a node without children: its entry stops the walk, or its exit does
abbrev pub IsStopAtLeaf : List ℕ → List (List ℕ × List ℕ) → ℕ → Name → Point → Point → Course →
    CompileError → Type 0
IsStopAtLeaf bytes names index name start end course stopped =
    IsStop bytes names index Enter name start course stopped
    ⊎ ((between : Course) × Enters name start course between
    × IsStop bytes names (suc index) Exit name end between stopped)

-- such a node may not end, or it breaks a rule
abbrev pub StopsInside : List ℕ → List (List ℕ × List ℕ) → Rule → Outer → Position → Course → Type 0
StopsInside bytes names rule.Order outer position course = is_complete course.state ≡ false
StopsInside bytes names broken outer position course = BreaksWhere bytes names broken
    (Some outer) position.start position.end course

abbrev pub IsStopInside : List ℕ → List (List ℕ × List ℕ) → ℕ → Outer → Position → Course →
    CompileError → Type 0
IsStopInside bytes names index outer position course error.Memory = Unit {0}
IsStopInside bytes names index outer position course (error.Event named broken) =
    (named ≡ index) × StopsInside bytes names broken outer position course
