-- The facts at an event, that the events skipped after it are in the document, and the bounds of
-- counts.
use Rattle.std.proofs.Common.{◌≡◌, ◌≤◌, ◌<◌, ℕ, ◌+◌, Bool, true, false, Some, List, length, refl}
use Rattle.std.proofs.Common.{arith}
use Rattle.std.specs.Prelude.{slice_get, if◌then◌else◌}
use Rattle.std.proofs.lemmas.Option.{slice_get_within}
use Rattle.md_base.specs.declared.event.Event.{Event}
use Rattle.md_base.specs.declared.event.Kind.{Kind}
use Rattle.md_base.specs.declared.event.Kind.TheVariants.{Enter, Exit}
use Rattle.md_base.specs.declared.event.Name.{Name}
use Rattle.md_base.specs.declared.event.Name.TheVariants.{Definition}
use Rattle.md_base.specs.declared.event.Point.{Point}
use Rattle.md_base.specs.Tree.{Forest, flatten, entering, exiting}
use Rattle.md_meaning.specs.Meaning.At.{Context}
use Rattle.md_tree.specs.Grammar.{Handed, IsChecked, IsReadAs}
use Rattle.md_tree.specs.Texts.{IsEventAt, EntersAt}
use Rattle.md_steps.specs.Run.{Noticed, noticed, passes, stepped}
use Rattle.md_steps.specs.State.{State, NodeFacts}
use Rattle.md_steps.specs.Steps.{is_passed}
use Rattle.md_facts.specs.NodeFacts.{IsNoticedAt}
use Rattle.md_facts.proofs.Nodes.{NodeAt, node-entered, node-exited}
use Rattle.md_facts.proofs.Noticed.{noticed_in}
use Rattle.md_html.specs.Stepping.{Few}

-- an event by its parts
abbrev pub event_of : Kind → Name → Point → Event
event_of kind name point = record { kind = kind; name = name; point = point }

pub is-there : (events : List Event) (index : ℕ) (kind : Kind) (name : Name)
    (at : IsEventAt events index kind name) →
    slice_get events index ≡ Some (event_of kind name at.0.point)
is-there events index kind name at = grind arith

-- ---- the event

pub record Seen (given : Handed) (document : Forest) (index : ℕ) (event : Event) : Type 0 where
  pub one : Noticed
  pub got : slice_get (noticed given.bytes true document) index ≡ Some one
  pub there : IsNoticedAt given index one
  pub inner : index + passes event one.inside < length given.events
  pub least : 1 ≤ one.inside

pub seen : (given : Handed) (document : Forest) (index : ℕ) (event : Event) →
    flatten document ≡ given.events →
    slice_get given.events index ≡ Some event → Seen given document index event
seen given document index event flat got = by event.kind event.name event.point got
  where
    before_exit : (b : Bool) (n exit : ℕ) → exit ≡ index + n → exit < length given.events →
        index + (if b then n else 0) < length given.events
    before_exit true n exit e lt = omega (arith, e, lt)
    before_exit false n exit e lt = omega (arith, e, lt)

    by : (kind : Kind) (name : Name) (point : Point) →
        slice_get given.events index ≡ Some (event_of kind name point) →
        Seen given document index (event_of kind name point)
    by Enter name point here =
        let found = node-entered given document flat index name
        (entering name point, here, refl, refl) in
        let node : NodeAt given document name index found.0 = found.1 in
        let one : Noticed = noticed_in given document name index found.0 node in
        record {
          one = one;
          got = node.at_entry;
          there = (document, flat, node.at_entry);
          inner = before_exit (is_passed name) one.inside found.0 node.apart
              (slice_get_within given.events found.0 (exiting name node.end) node.exits);
          least = omega arith;
        }
    by Exit name point here =
        let found = node-exited given document flat index name
        (exiting name point, here, refl, refl) in
        let node : NodeAt given document name found.0 index = found.1 in
        let one : Noticed = noticed_in given document name found.0 index node in
        let within = slice_get_within given.events index (exiting name point) here in
        record {
          one = one;
          got = node.at_exit;
          there = (document, flat, node.at_exit);
          inner = omega (arith, within);
          least = omega arith;
        }

-- the exit of a definition lies in the document
pub definition-seen : (given : Handed) (index : ℕ) → IsChecked given →
    EntersAt given.events index Definition →
    (one : Noticed) × IsNoticedAt given index one × (index + one.inside < length given.events)
    × (1 ≤ one.inside)
definition-seen given index checked enters =
    let here : Seen given checked.0 index (entering Definition enters.0.point) =
    seen given checked.0 index (entering Definition enters.0.point)
    (IsReadAs.flattened checked.1) (is-there given.events index Enter Definition enters) in
    (here.one, here.there, here.inner, here.least)

-- ---- counts

-- one event raises each by one at most
pub stepped-few : (context : Context) (event : Event) (facts : NodeFacts) (state : State)
    (m n : ℕ) → m < n →
    Few m state → Few n (stepped context event facts state)
stepped-few context event facts state m n lt few = grind arith
