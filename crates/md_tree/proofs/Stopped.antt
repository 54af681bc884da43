-- Which rules a node can break, and how a walk stops at its exit.
use Rattle.std.proofs.Common.{arith, ◌≡◌, ℕ, true, Option, Some, List, ◌∷◌, rules, suc, ◌<◌, []}
use Rattle.std.proofs.Common.{◌++◌, length, take, drop, get_or, sym, subst}
use Rattle.md_tree.proofs.Common.{Point, Name, Exit, Symbol, Role, Reading, Referral, Rule}
use Rattle.md_tree.proofs.Common.{CompileError, Open, Outer, place, broken_rule, is_complete}
use Rattle.md_tree.proofs.Common.{Course, IsStop, IsStopInside, take-suc}
use Rattle.md_tree.proofs.Common.{take-append-drop, slice_get-get_or, Kind, Enter, Event}
use Rattle.md_tree.proofs.Common.{Handed, EndsBroken, IsRefusal, Runs}
use Rattle.md_tree.proofs.Common.{beginning, Unbroken, BreaksAtExit, StopsBy}
use Rattle.md_pattern.specs.declared.kinds.Reading.TheVariants as reading
use Rattle.md_tree.specs.declared.rule.Rule.TheVariants as rule
use Rattle.md_tree.specs.Walk.{StopsInside}
use Rattle.std.proofs.Math.Seq.{drop-cons}
use Rattle.md_tree.specs.declared.rule.CompileError.TheVariants as error
use Rattle.md_tree.specs.Refusal.{IsOrder, IsMdx, IsBroken, IsLost}
use Rattle.md_tree.specs.Refusal as refusal
use Rattle.md_tree.proofs.Verdicts.{Reached-runs, BeginNoTree-stuck, outside-stopped}
use Rattle.md_tree.proofs.BrokenNodes.{EndsBroken-exit}

-- a rule that is judged when a node ends
abbrev pub IsOfNode : Rule → Type 0
IsOfNode rule.Order = ⊥
IsOfNode rule.Mdx = ⊥
IsOfNode rule.Definition = ⊥
IsOfNode rule.Footnote = ⊥
IsOfNode _ = Unit {0}

module _ (bytes : List ℕ) (names : List (List ℕ × List ℕ)) where
  pub of_node : (reads : Reading) (around : Role)
      (before : Option Symbol) (start end : Point) (target : Referral) (broken : Rule) →
      broken_rule bytes names reads around before start end target ≡ Some broken → IsOfNode broken
  of_node reading.Text around before start end target broken e = grind arith
  of_node _ around before start end target broken e = grind arith

  pub StopsInside-broken : (broken : Rule) (outer : Outer)
      (start end : Point) (course : Course) → is_complete course.state ≡ true →
      broken_rule bytes names outer.reading outer.state.role outer.before start end course.target
      ≡ Some broken → StopsInside bytes names broken outer (place start end) course
  StopsInside-broken broken outer start end course complete e = grind arith

  -- the same, as a refusal; which nodes are open doesn't matter inside
  pub IsStop-inside : (index : ℕ) (refusal : CompileError) (others left : List Open)
      (open_node : Open) (outer : Outer) (name : Name) (point : Point) (course : Course) →
      course.open_nodes ≡ open_node ∷ others → open_node.name ≡ name →
      open_node.outer ≡ Some outer →
      IsStopInside bytes names index outer (place open_node.start point)
      (record course { open_nodes = left }) refusal →
      IsStop bytes names index Exit name point course refusal
  IsStop-inside index refusal others left open_node outer name point course opens_are same
      outer_is stops = grind arith

-- An event that stops a walk is refused for what it breaks.

module _ (bytes : List ℕ) (names : List (List ℕ × List ℕ)) where
  -- a rule that is judged when a node ends stops a walk at an exit alone
  abbrev AtExit : Rule → Kind → Name → Point → Course → Type 0
  AtExit broken Enter name point course = ⊥
  AtExit broken Exit name point course =
      BreaksAtExit bytes names broken course.open_nodes name point course

  at_exit : (broken : Rule) (kind : Kind) (name : Name) (point : Point) (course : Course) →
      IsOfNode broken → StopsBy bytes names kind broken name point course →
      AtExit broken kind name point course
  at_exit broken kind name point course of stops = grind arith

  ends_broken : (broken : Rule) (kind : Kind) (name : Name) (point : Point) (seen : List Event)
      (course : Course) → Runs (Unbroken bytes names) seen beginning course →
      AtExit broken kind name point course → EndsBroken bytes names
      (seen ++ record { kind = kind; name = name; point = point } ∷ []) broken
  ends_broken broken kind name point seen course runs breaks =
      grind (arith, EndsBroken-exit, Reached-runs)

module _ (given : Handed) (index : ℕ) (d : Event) (course : Course)
    (inside : index < length given.events)
    (runs : Runs (Unbroken given.bytes given.names) (take index given.events)
    beginning course) where
  abbrev event : Event
  event = get_or given.events index d

  abbrev Stops : Rule → Type 0
  Stops broken = StopsBy given.bytes given.names event.kind broken event.name event.point course

  seen_more :
      take (suc index) given.events ≡ take index given.events ++ get_or given.events index d ∷ []
  seen_more = take-suc given.events index d inside

  broken_node : (broken : Rule) → IsOfNode broken → Stops broken → IsBroken given index broken
  broken_node broken of stops = search (rules, seen_more, ends_broken, at_exit)

  said_order : (broken : Rule) → Stops broken → IsOrder given (error.Event index broken)
  said_order broken stops = grind (arith, seen_more, BeginNoTree-stuck)

  said_mdx : (broken : Rule) → Stops broken → IsMdx given (error.Event index broken)
  said_mdx broken stops = grind (arith, slice_get-get_or)

  said_node : (broken : Rule) → Stops broken → refusal.IsOfNode given (error.Event index broken)
  said_node broken stops = grind (arith, broken_node)

  said_lost : (broken : Rule) → Stops broken → IsLost given (error.Event index broken)
  said_lost broken stops = grind arith

  parts : given.events
      ≡ take index given.events ++ get_or given.events index d ∷ drop (suc index) given.events
  parts = grind (arith, take-append-drop, drop-cons)

  stopped_at : (named : ℕ) (broken : Rule) → named ≡ index → Stops broken →
      IsRefusal given (error.Event named broken)
  stopped_at named broken same stops =
      subst (λ n. IsRefusal given (error.Event n broken)) (sym same) (record {
        order = said_order broken stops;
        mdx = said_mdx broken stops;
        of_node = said_node broken stops;
        lost = said_lost broken stops;
        outside = outside-stopped given _ _ _ course broken parts runs stops;
      })

  pub IsRefusal-stopped : (stopped : CompileError) → IsStop given.bytes given.names index
      event.kind event.name event.point course stopped → IsRefusal given stopped
  IsRefusal-stopped error.Memory stop = search rules
  IsRefusal-stopped (error.Event named broken) stop = stopped_at named broken stop.0 stop.1
