-- The events of a definition: those of its children, before the next event of a definition.
use Rattle.std.proofs.Common.{◌≡◌, ℕ, zero, suc, true, List, ◌∷◌, [], ◌++◌, drop, refl, sym, ◌∙◌}
use Rattle.std.proofs.Common.{append_assoc, arith}
use Rattle.md_base.specs.declared.event.Event.{Event}
use Rattle.md_base.specs.declared.event.Name.{Name}
use Rattle.md_base.specs.declared.event.Point.{Point}
use Rattle.md_base.specs.Tree.{Forest, Empty, Node, flatten, entering, exiting}
use Rattle.md_pattern.specs.Partners.{index_after}
use Rattle.md_steps.specs.Content.{Content, Fits, content_inside, content_after_node}
use Rattle.md_steps.proofs.AlikeStrings.{plain}
use Rattle.md_steps.proofs.Quiet.{past-callless}
use Rattle.md_steps.proofs.Standing.{allowed-facts, is_callless}
use Rattle.md_steps.proofs.Staying.{node-same}
use Rattle.md_length.specs.Work.{before_definition}

-- the events of a node with its children, and those after it
pub node-events : (name : Name) (start end : Point) (children rest : Forest) (tail : List Event) →
    flatten (Node name start end children rest) ++ tail
    ≡ entering name start ∷ (flatten children ++ exiting name end ∷ (flatten rest ++ tail))
node-events name start end children rest tail = grind (arith, append_assoc)

-- no definition stands in one
pub before-low : (content : Content) (forest : Forest) (tail : List Event) →
    is_callless content ≡ true → Fits content forest →
    before_definition (flatten forest ++ tail) ≡ flatten forest ++ before_definition tail
before-low content Empty tail low fits = refl
before-low content (Node name start end children rest) tail low fits =
    let other = plain content name low fits.0 in
    let inner = before-low (content_inside content name) children
    (exiting name end ∷ (flatten rest ++ tail)) ((allowed-facts content name fits.0).callless low).0
    fits.1 in
    let later = before-low (content_after_node content name children) rest tail
    (node-same is_callless past-callless content name children ∙ low) fits.2 in
    grind (arith, append_assoc, other, inner, later)

-- one event further
dropped : (events : List Event) (index : ℕ) (event : Event) (following : List Event) →
    drop index events ≡ event ∷ following → drop (suc index) events ≡ following
dropped [] zero event following split = cc
dropped [] (suc index) event following split = cc
dropped (e ∷ events) zero event following split = cc
dropped (e ∷ events) (suc index) event following split =
    dropped events index event following split

-- the events of a node's children, and those after the node
pub inside_node : (events : List Event) (index : ℕ) (name : Name) (start end : Point)
    (children rest : Forest) (tail : List Event) →
    drop index events ≡ flatten (Node name start end children rest) ++ tail →
    drop (suc index) events ≡ flatten children ++ exiting name end ∷ (flatten rest ++ tail)
inside_node events index name start end children rest tail split =
    grind (arith, dropped, node-events)

behind : (events : List Event) (index : ℕ) (forest : Forest) (tail : List Event) →
    drop index events ≡ flatten forest ++ tail → drop (index_after index forest) events ≡ tail
behind events index Empty tail split = split
behind events index (Node name start end children rest) tail split =
    behind events (suc (index_after (suc index) children)) rest tail
    (dropped events (index_after (suc index) children) (exiting name end) (flatten rest ++ tail)
    (behind events (suc index) children (exiting name end ∷ (flatten rest ++ tail))
    (inside_node events index name start end children rest tail split)))

pub behind_node : (events : List Event) (index : ℕ) (name : Name) (start end : Point)
    (children rest : Forest) (tail : List Event) →
    drop index events ≡ flatten (Node name start end children rest) ++ tail →
    drop (suc (index_after (suc index) children)) events ≡ flatten rest ++ tail
behind_node events index name start end children rest tail split =
    behind events index (Node name start end children Empty) (flatten rest ++ tail)
    (split ∙ node-events name start end children rest tail
    ∙ sym (node-events name start end children Empty (flatten rest ++ tail)))
