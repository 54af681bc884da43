-- Facts about a list of events, from how a walk over it continues, stops or ends.
use Rattle.std.proofs.Common.{arith, ◌≡◌, ℕ, Bool, true, cond, None, MatchOption, List, []}
use Rattle.std.proofs.Common.{◌∷◌, ◌++◌, sym, ◌∙◌, subst, append_assoc, append-nil}
use Rattle.md_tree.proofs.Common.{Point, Name, Kind, Event, Flow, Standing, Mdx, Referral, Rule}
use Rattle.md_tree.proofs.Common.{State, Entry, Open, Forest, flatten, IsShaped, MeetRules, Handed}
use Rattle.md_tree.proofs.Common.{IsChecked, BeginNoTree, is_complete}
use Rattle.md_tree.proofs.Common.{Reads, Course, Runs, Steps, StepsBy, Exits, entered_on, beginning}
use Rattle.md_tree.proofs.Common.{Anything, Unbroken, BreaksAtExit, StopsBy}
use Rattle.md_tree.proofs.NodesRead.{Runs-split, Runs-document, after_nodes}
use Rattle.md_tree.proofs.OpenPaths.{Reached, Reached-beginning}
use Rattle.md_tree.proofs.Paths.{Reached-enter, Reached-exit}
use Rattle.md_tree.proofs.NodeClaims.{shaped_anything, free_anything, fine_unbroken, free_unbroken}

-- ---- one course
module _ (holds also : Reads) where
  steps_same : (kind : Kind) (name : Name) (point : Point) (from one other : Course) →
      StepsBy holds kind name point from one → StepsBy also kind name point from other → one ≡ other
  steps_same kind name point from one other e f = grind arith

  pub Runs-same : (events : List Event) (from one other : Course) → Runs holds events from one →
      Runs also events from other → one ≡ other
  Runs-same [] from one other e f = sym e ∙ f
  Runs-same (event ∷ events) from one other e f = grind (arith, Runs-same events, steps_same)

-- ---- where a walk has come to
step_reached : (holds : Reads) (kind : Kind) (seen : List Event) (name : Name) (point : Point)
    (from to : Course) → Reached holds seen from → StepsBy holds kind name point from to →
    Reached holds (seen ++ record { kind = kind; name = name; point = point } ∷ []) to
step_reached holds kind seen name point from to reached step =
    grind (arith, Reached-enter, Reached-exit)

module _ (holds : Reads) where
  runs_reached : (events seen : List Event) (from to : Course) → Reached holds seen from →
      Runs holds events from to → Reached holds (seen ++ events) to
  runs_reached [] seen from to reached runs = grind (arith, append-nil)
  runs_reached (event ∷ events) seen from to reached runs =
      rw (append_assoc seen (event ∷ []) events) at (runs_reached events (seen ++ event ∷ []) runs.0
      to (step_reached holds event.kind seen event.name event.point from runs.0 reached runs.1)
      runs.2)

  pub Reached-runs : (events : List Event) (to : Course) → Runs holds events beginning to →
      Reached holds events to
  Reached-runs events to runs =
      runs_reached events [] beginning to (Reached-beginning holds) runs

-- ---- an event that stops a walk

-- no tree begins so
pub BeginNoTree-stuck : (holds : Reads) (seen : List Event) (event : Event) (course : Course) →
    Runs holds seen beginning course → ((next : Course) → Steps Anything event course next → ⊥) →
    BeginNoTree (seen ++ event ∷ [])
BeginNoTree-stuck holds seen event course runs stuck = λ forest more shaped flattened.
    let document = Runs-document Anything free_anything forest
    (shaped_anything forest Flow None shaped.0) shaped.1 in
    let end = after_nodes forest document.0 beginning in
    let parts = Runs-split Anything seen _ beginning end
    (rw (flattened ∙ append_assoc seen _ more) at document.1) in
    let same = Runs-same Anything holds seen beginning parts.0 course parts.1 runs in
    stuck parts.2.0 (subst (λ c. Steps Anything event c parts.2.0) same parts.2.1)

mdx_enters :
    (standing : Standing) (state : State) (target : Referral) (b : Bool) (P : Entry → Type 0) →
    standing ≡ Mdx → MatchOption (cond b (entered_on standing state target) None) ⊥ P → ⊥
mdx_enters standing state target b P e here = grind arith

module _ (holds : Reads) where
  anything_exits : (opens : List Open) (name : Name) (point : Point) (from to : Course) →
      Exits holds opens name point from to → Exits Anything opens name point from to
  anything_exits opens name point from to e = grind arith

  pub anything_runs : (events : List Event) (from to : Course) → Runs holds events from to →
      Runs Anything events from to
  anything_runs [] from to runs = runs
  anything_runs (event ∷ events) from to runs = grind (arith, anything_runs events, anything_exits)

module _ (bytes : List ℕ) (names : List (List ℕ × List ℕ)) where
  broken_leaves : (broken : Rule) (opens : List Open) (name : Name) (point : Point)
      (course next : Course) → BreaksAtExit bytes names broken opens name point course →
      Exits (Unbroken bytes names) opens name point course next → ⊥
  broken_leaves broken opens name point course next breaks exits = grind arith

-- a grammatical document is walked to its end
pub Runs-checked : (given : Handed) (forest : Forest) → flatten forest ≡ given.events →
    IsShaped forest → MeetRules given.bytes given.names forest Flow None → (end : State) × Runs
    (Unbroken given.bytes given.names) given.events beginning (after_nodes forest end beginning) ×
    (is_complete end ≡ true)
Runs-checked given forest flattened shaped meets =
    grind (arith, Runs-document, free_unbroken, fine_unbroken)

-- an event that stops a walk is in no document of the grammar
pub outside-stopped : (given : Handed) (seen more : List Event) (event : Event) (course : Course)
    (broken : Rule) → given.events ≡ seen ++ event ∷ more →
    Runs (Unbroken given.bytes given.names) seen beginning course →
    StopsBy given.bytes given.names event.kind broken event.name event.point course →
    IsChecked given → ⊥
outside-stopped given seen more event course broken parts runs stops checked =
    grind (arith, Runs-checked, Runs-split, Runs-same, mdx_enters, anything_exits, broken_leaves)
