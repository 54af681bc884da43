-- What a check may say of a list of events: why each refusal is one, and that a list that passes is
-- of the grammar. The contracts of `check` and of `Reader` follow from it. First what follows of a
-- list of events from how a walk ends: something is left open, or a whole document was read.
use Rattle.std.proofs.Common.{arith, ◌≡◌, ◌≢◌, ◌⊎◌, inl, inr, ℕ, zero, suc, Bool, true, false, Some}
use Rattle.std.proofs.Common.{None, List, [], ◌∷◌, drop, refl, sym, ap, ◌∙◌, subst, rules, ◌<◌}
use Rattle.std.proofs.Common.{length, take, get_or}
use Rattle.md_tree.proofs.Common.{list_all, Event, Flow, Referral, Mentioned, Rule, State, Open}
use Rattle.md_tree.proofs.Common.{Forest, flatten, spine, pattern_of, IsShaped, MeetRules, Handed}
use Rattle.md_tree.proofs.Common.{IsGrammatical, IsReadAs, IsChecked, Level, EndsInGroup}
use Rattle.md_tree.proofs.Common.{is_complete, is_whole, is_optional, start_of, Reads, Course, Runs}
use Rattle.md_tree.proofs.Common.{beginning, Unbroken, mentions_of, map, slice_get, All, take-suc}
use Rattle.md_tree.proofs.Common.{slice_get_within, get_or_from_slice_get, Data, Mention}
use Rattle.md_tree.proofs.Common.{CompileError, mentions_among, IsResolved, IsRefusal, Steps}
use Rattle.md_tree.proofs.Common.{IsUnresolvedBy, IsUnresolved, facts_at, numbered, number_for}
use Rattle.md_tree.proofs.Common.{facts_with}
use Rattle.md_tree.specs.Refusal.{Begins, LeaveOpen, EndsUnresolved}
use Rattle.md_tree.proofs.Listing.{listed, mentions_over-listed, resolved-listed, all-resolved}
use Rattle.md_tree.proofs.Listing.{got-listed, numbered-listed}
use Rattle.md_tree.proofs.Patterns.{and_both}
use Rattle.md_tree.proofs.SpinesRead.{EndsInGroup-feeds}
use Rattle.md_tree.proofs.NodesRead.{Feeds-context, Runs-append}
use Rattle.md_tree.proofs.Completing.{IsDone-runs, BeginTree-runs}
use Rattle.md_tree.proofs.OpenPaths.{path_none, Stands, Stands-context, Reached}
use Rattle.md_tree.proofs.NodeClaims.{fine_shaped, fine_meets, fine_path_shaped}
use Rattle.md_tree.proofs.Verdicts.{Runs-same, Runs-checked, Reached-runs}
use Rattle.md_tree.specs.declared.rule.Rule.TheVariants as rule
use Rattle.md_tree.specs.declared.rule.CompileError.TheVariants as error
use Rattle.md_tree.specs.Resolve.{RefersNowhere}
use Rattle.md_tree.proofs.OneTree.{flatten_one}
use Rattle.md_tree.proofs.LeastNodes.{somewhere}

-- ---- the end

begins : (holds : Reads) (events : List Event) (course : Course) →
    (reached : Reached holds events course) → Begins events reached.path reached.nodes
begins holds events course reached =
    let outer =
    Stands-context reached.path course.open_nodes reached.base reached.found reached.stands in
    record {
      events_are = reached.events_are;
      path_shaped = fine_path_shaped holds reached.path reached.path_fine;
      nodes_shaped = rw (← outer.0, ← outer.1) (fine_shaped holds reached.nodes _ _
          reached.nodes_fine);
    }

path_some : (path : List Level) (open_node : Open) (others : List Open) (state : State)
    (target : Referral) → Stands path (open_node ∷ others) state target → path ≢ []
path_some path open_node others state target stands = grind arith

flow_optional : (k : ℕ) → list_all is_optional (drop k (pattern_of Flow)) ≡ true
flow_optional zero = refl
flow_optional (suc zero) = refl
flow_optional (suc (suc k)) = refl

not_whole : (state : State) → state.role ≡ Flow → is_complete state ≡ false → (whole : Bool) →
    is_whole state.stage ≡ whole → whole ≡ false
not_whole state flow incomplete whole e = grind (arith, flow_optional, and_both)

-- something is open: a node, or a group on the document's own spine
abbrev IsLeftOpen : List Event → Type 0
IsLeftOpen events = (path : List Level) × (nodes : Forest) × Begins events path nodes
    × ((path ≢ []) ⊎ ((path ≡ []) × EndsInGroup (spine nodes)))

leaves_group : (holds : Reads) (events : List Event) (course : Course) →
    (reached : Reached holds events course) → (reached.path ≡ []) → reached.base ≡ start_of Flow →
    is_complete course.state ≡ false → IsLeftOpen events
leaves_group holds events course reached none base incomplete =
    let feeds = rw base at reached.feeds in
    let flow = (Feeds-context _ course.state _ feeds).0 in
    let open_group = not_whole course.state flow incomplete _ refl in (
      reached.path,
      reached.nodes,
      begins holds events course reached,
      inr (none, EndsInGroup-feeds Flow _ course.state feeds open_group),
    )

leave_open : (holds : Reads) (events : List Event) (course : Course) (opens : List Open) →
    course.open_nodes ≡ opens → (reached : Reached holds events course) →
    (course.open_nodes ≡ [] → is_complete course.state ≡ false) → IsLeftOpen events
leave_open holds events course [] e reached undone =
    let none = path_none reached.path course.open_nodes reached.base reached.found e
    reached.stands in
    leaves_group holds events course reached none.0 none.1 (undone e)
leave_open holds events course (open_node ∷ others) e reached undone = (
  reached.path,
  reached.nodes,
  begins holds events course reached,
  inl (path_some reached.path open_node others reached.base reached.found
      (rw e at reached.stands)),
)

pub LeaveOpen-undone : (holds : Reads) (events : List Event) (course : Course) →
    Runs holds events beginning course →
    (course.open_nodes ≡ [] → is_complete course.state ≡ false) → LeaveOpen events
LeaveOpen-undone holds events course runs undone = (
  BeginTree-runs holds events course runs,
  leave_open holds events course course.open_nodes refl
      (Reached-runs holds events course runs) undone,
)

-- all has ended: the document that was read
pub record IsWalked (given : Handed) (mentions : List Mentioned) : Type 0 where
  pub forest : Forest
  pub flattened : flatten forest ≡ given.events
  pub shape : IsShaped forest
  pub rules : MeetRules given.bytes given.names forest Flow None
  pub mentions_are : mentions ≡ listed 0 (mentions_of forest)

pub IsWalked-done : (given : Handed) (course : Course) →
    Runs (Unbroken given.bytes given.names) given.events beginning course → course.open_nodes ≡ [] →
    is_complete course.state ≡ true → IsWalked given course.mentions
IsWalked-done given course runs none complete =
    let holds = Unbroken given.bytes given.names in
    let done = IsDone-runs holds given.events course runs none complete in
    let rules = fine_meets given.bytes given.names done.forest Flow None done.fine in
    let document = Runs-checked given done.forest done.flattened done.shape rules in
    let same = Runs-same holds holds given.events beginning course _ runs document.1 in
    record {
      forest = done.forest;
      flattened = done.flattened;
      shape = done.shape;
      rules = rules;
      mentions_are = ap (λ (c : Course). c.mentions) same ∙ mentions_over-listed done.forest;
    }

-- ---- one event more
pub Runs-more : (holds : Reads) (events : List Event) (index : ℕ) (d : Event) (from to : Course) →
    index < length events → Runs holds (take index events) beginning from →
    Steps holds (get_or events index d) from to → Runs holds (take (suc index) events) beginning to
Runs-more holds events index d from to inside runs step =
    rw (take-suc events index d inside)
    (Runs-append holds _ _ beginning from to runs (to, step, refl))

-- ---- the end
pub IsRefusal-undone : (given : Handed) (course : Course) →
    Runs (Unbroken given.bytes given.names) given.events beginning course →
    (course.open_nodes ≡ [] → is_complete course.state ≡ false) →
    IsRefusal given (error.Event (length given.events) rule.Order)
IsRefusal-undone given course runs undone = grind (arith, LeaveOpen-undone, Runs-checked, Runs-same)

-- ---- unresolved mentions

-- a document of the same events is the one that was read
document_one : (given : Handed) (mentions : List Mentioned) (walked : IsWalked given mentions)
    (checked : IsChecked given) → checked.0 ≡ walked.forest
document_one given mentions walked checked = grind (arith, flatten_one)

-- an unresolved mention, among the mentions of the document
module _ (given : Handed) (mentioned : List Mentioned) (index : ℕ) (mention : Mention)
    (walked : IsWalked given mentioned)
    (lost : RefersNowhere given.bytes mentioned index mention) where
  abbrev all : List Mention
  all = mentions_of walked.forest

  lost_got : slice_get all index ≡ Some mention
  lost_got =
      got-listed all lost.0 _ (ap (λ ms. slice_get ms lost.0) (sym walked.mentions_are) ∙ lost.1)

  lost_unresolved : IsResolved given.bytes all mention → ⊥
  lost_unresolved is = grind (arith, lost, resolved-listed)

  -- a document's mentions are resolved
  lost_outside : IsChecked given → ⊥
  lost_outside checked =
      let resolved = subst (λ f. All (IsResolved given.bytes (mentions_of f)) (mentions_of f))
      (document_one given mentioned walked checked)
      (IsGrammatical.resolved (IsReadAs.grammatical checked.1)) in
      let here = resolved index mention (slice_get_within all index mention lost_got) in
      lost_unresolved (rw (get_or_from_slice_get all index mention mention lost_got) at here)

  ends_unresolved : EndsUnresolved given index mention
  ends_unresolved = record {
    forest = walked.forest;
    flattened = walked.flattened;
    shape = walked.shape;
    rules = walked.rules;
    mentioned = lost_got;
    unresolved = lost_unresolved;
  }

refused_lost : (given : Handed) (mentioned : List Mentioned) (index : ℕ) (broken : Rule) →
    IsWalked given mentioned → IsUnresolvedBy given.bytes mentioned index broken →
    IsRefusal given (error.Event index broken)
refused_lost given mentioned index rule.Definition walked lost =
    search (
      rules,
      lost.0,
      ends_unresolved given mentioned index _ walked lost.1,
      lost_outside given mentioned index _ walked lost.1,
    )
refused_lost given mentioned index rule.Footnote walked lost =
    search (
      rules,
      lost.0,
      ends_unresolved given mentioned index _ walked lost.1,
      lost_outside given mentioned index _ walked lost.1,
    )
refused_lost given mentioned index _ walked lost = absurd lost

pub IsRefusal-lost : (given : Handed) (mentioned : List Mentioned) (refused : CompileError) →
    IsWalked given mentioned → IsUnresolved given.bytes mentioned refused → IsRefusal given refused
IsRefusal-lost given mentioned refused walked lost = grind (arith, refused_lost)

-- ---- what passes
pub IsChecked-walked : (given : Handed) (mentioned : List Mentioned) → IsWalked given mentioned →
    All (IsResolved given.bytes (mentions_among mentioned)) (mentions_among mentioned) →
    IsChecked given
IsChecked-walked given mentioned walked resolved = (
  walked.forest,
  record {
    flattened = walked.flattened;
    grammatical = record {
      shape = walked.shape;
      rules = walked.rules;
      resolved = all-resolved given.bytes _ (rw walked.mentions_are at resolved);
    };
  },
)

pub AreNumbered-walked : (given : Handed) (mentioned : List Mentioned) → IsWalked given mentioned →
    (forest : Forest) → flatten forest ≡ given.events →
    numbered (number_for given.bytes (mentions_among mentioned)) mentioned (facts_at given.events)
    ≡ facts_with (map (number_for given.bytes (mentions_of forest)) (mentions_of forest))
    (facts_at given.events)
AreNumbered-walked given mentioned walked forest flattens =
    ap (λ ms. numbered (number_for given.bytes (mentions_among ms)) ms (facts_at given.events))
    (walked.mentions_are ∙ ap (λ f. listed 0 (mentions_of f))
    (flatten_one Data somewhere walked.forest forest (walked.flattened ∙ sym flattens)))
    ∙ numbered-listed given.bytes (mentions_of forest) (facts_at given.events)
