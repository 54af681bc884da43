-- In the events of a document, and from each one on, each captured text that ends has begun before.
use Rattle.std.proofs.Common.{◌≡◌, ℕ, zero, suc, ◌-◌, Bool, true, false, not, ◌&&◌, List, []}
use Rattle.std.proofs.Common.{◌∷◌, ◌++◌, length, drop, refl, append-nil}
use Rattle.std.proofs.Common.{append_assoc, arith}
use Rattle.std.specs.Prelude.{if◌then◌else◌}
use Rattle.std.proofs.lemmas.Bool.{and_from}
use Rattle.md_base.specs.declared.event.Event.{Event}
use Rattle.md_base.specs.declared.event.Name.{Name}
use Rattle.md_base.specs.declared.event.Point.{Point}
use Rattle.md_base.specs.Tree.{Forest, Empty, Node, flatten, entering, exiting}
use Rattle.md_base.specs.Children.{is_empty}
use Rattle.md_steps.specs.Run.{Noticed, noticed, passes}
use Rattle.md_steps.specs.State.{facts_of}
use Rattle.md_steps.specs.Steps.{is_passed}
use Rattle.md_steps.specs.State.{captures}
use Rattle.md_steps.proofs.Running.{noticed-length}
use Rattle.md_html.specs.Fits.{may_end, captured_after, fits}

-- ---- one event further
fits-passing : (left captured : ℕ) (events : List Event) (seen : List Noticed) →
    fits left captured events seen ≡ true →
    fits 0 captured (drop left events) (drop left seen) ≡ true
fits-passing zero captured events seen f = f
fits-passing (suc left) captured [] seen f = f
fits-passing (suc left) captured (event ∷ events) [] f = cc
fits-passing (suc left) captured (event ∷ events) (one ∷ seen) f =
    fits-passing left captured events seen f

pub fits-step :
    (captured : ℕ) (event : Event) (one : Noticed) (events : List Event) (seen : List Noticed) →
    fits 0 captured (event ∷ events) (one ∷ seen) ≡ true →
    fits 0 (captured_after event captured) (drop (passes event one.inside) events)
    (drop (passes event one.inside) seen) ≡ true
fits-step captured event one events seen f = grind (arith, fits-passing)

-- ---- a document's events
may-enter : (name : Name) (start : Point) (captured : ℕ) →
    may_end (entering name start) captured ≡ true
may-enter name start zero = refl
may-enter name start (suc captured) = refl

-- at the node's last event, where what comes after it fits
exits-so : (c : Bool) (name : Name) (end : Point) (captured : ℕ) (one : Noticed)
    (events : List Event) (seen : List Noticed) → captures name ≡ c →
    fits 0 captured events seen ≡ true →
    fits 0 (if c then suc captured else captured) (exiting name end ∷ events) (one ∷ seen) ≡ true
exits-so c name end captured one events seen e f = grind arith

-- at the node's first event, all others are skipped
fits-passed : (captured : ℕ) (events : List Event) (seen : List Noticed) (event : Event)
    (one : Noticed) (tail : List Event) (more : List Noticed) → length seen ≡ length events →
    fits 0 captured tail more ≡ true →
    fits (suc (length events)) captured (events ++ event ∷ tail) (seen ++ one ∷ more) ≡ true
fits-passed captured [] [] event one tail more e f = f
fits-passed captured [] (other ∷ seen) event one tail more e f = cc
fits-passed captured (other ∷ events) [] event one tail more e f = cc
fits-passed captured (first ∷ events) (other ∷ seen) event one tail more e f =
    fits-passed captured events seen event one tail more (omega (arith, e)) f

-- or none is
enters-so : (p c : Bool) (inside captured : ℕ) (events : List Event) (seen : List Noticed) →
    fits inside captured events seen ≡ true →
    fits 0 (if c then suc captured else captured) events seen ≡ true →
    fits (if p then inside else 0) (if c && not p then suc captured else captured) events seen
    ≡ true
enters-so p c inside captured events seen f g = grind arith

pub fits-over : (bytes : List ℕ) (last : Bool) (forest : Forest) (captured : ℕ) (tail : List Event)
    (more : List Noticed) → fits 0 captured tail more ≡ true →
    fits 0 captured (flatten forest ++ tail) (noticed bytes last forest ++ more) ≡ true
fits-over bytes last Empty captured tail more f = f
fits-over bytes last (Node name start end children rest) captured tail more f =
    let here : Noticed = record {
      facts = facts_of bytes (last && is_empty rest) children start end;
      inside = suc (length (flatten children));
    }
    in
    let seen : List Noticed = noticed bytes false children in
    let behind : List Event = flatten rest ++ tail in
    let behind_seen : List Noticed = noticed bytes last rest ++ more in
    let within : List Event = flatten children ++ exiting name end ∷ behind in
    let within_seen : List Noticed = seen ++ here ∷ behind_seen in
    let inner : ℕ = if captures name then suc captured else captured in
    let after = fits-over bytes last rest captured tail more f in
    let left = exits-so (captures name) name end captured here behind behind_seen refl after in
    rw (
      append_assoc (flatten children) (exiting name end ∷ flatten rest) tail,
      append_assoc seen (here ∷ noticed bytes last rest) more,
    ) (and_from
    (may_end (entering name start) captured)
    (fits (passes (entering name start) here.inside) (captured_after (entering name start) captured)
    within within_seen)
    (may-enter name start captured)
    (enters-so (is_passed name) (captures name) here.inside captured within within_seen
    (fits-passed captured (flatten children) seen (exiting name end) here behind behind_seen
    (noticed-length bytes false children) after)
    (fits-over bytes false children inner (exiting name end ∷ behind) (here ∷ behind_seen) left)))

pub fits-all : (bytes : List ℕ) (document : Forest) →
    fits 0 0 (flatten document) (noticed bytes true document) ≡ true
fits-all bytes document =
    rw (append-nil (flatten document), append-nil (noticed bytes true document)) at
    (fits-over bytes true document 0 [] [] refl)
