-- What work counts as read is no less than the lengths of a document's nodes that are read, and
-- just these where no index goes back: one induction over the nodes for both.
use Rattle.std.proofs.Common.{◌≡◌, ℕ, ◌+◌, ◌-◌, ◌*◌, ◌≤◌, suc, Bool, true, false, List, [], ◌∷◌}
use Rattle.std.proofs.Common.{◌++◌, refl, ap, sym, ◌∙◌, append_assoc, arith}
use Rattle.std.specs.Prelude.{if◌then◌else◌}
use Rattle.std.proofs.Math.Nat.{le_trans, le_of_eq, mul-le-mul_left, mul-add, mul-zero}
use Rattle.std.proofs.lemmas.List.{append-nil}
use Rattle.md_base.proofs.Lies.{lie}
use Rattle.md_base.specs.declared.event.Event.{Event}
use Rattle.md_base.specs.Tree.{Forest, Empty, Node, flatten, exiting}
use Rattle.md_length.specs.Work.{is_read, read_length, covered_from}
use Rattle.md_length.specs.Lengths.{lengths, GoesForward}

-- the length of what is read from an index, if this many nodes that are read are open
abbrev pub read_from : ℕ → ℕ → List Event → ℕ
read_from index depth events = covered_from is_read index depth events

-- where the last event of nodes stands, or what is before them
abbrev last_index : ℕ → Forest → ℕ
last_index index Empty = index
last_index index (Node name start end children rest) = last_index end.index rest

-- in a node, and what its own length adds
abbrev inside : Bool → ℕ → ℕ
inside read depth = if read then suc depth else depth

abbrev own : Bool → ℕ → ℕ
own read length = if read then length else 0

exit_depth : (read : Bool) (depth : ℕ) →
    (if read then inside read depth - 1 else inside read depth) ≡ depth
exit_depth read depth = grind arith

once : (read : Bool) (depth n : ℕ) → inside read depth * n ≡ depth * n + own read n
once true depth n = omega arith
once false depth n = omega arith

-- ---- equal if no index goes back, else no less
abbrev AtLeast : Bool → ℕ → ℕ → Type 0
AtLeast true most few = most ≡ few
AtLeast false most few = few ≤ most

-- a way over a place between, as often as it is gone
way : (forward : Bool) (depth a b c : ℕ) → (forward ≡ true → (a ≤ b) × (b ≤ c)) →
    AtLeast forward (depth * (b - a) + depth * (c - b)) (depth * (c - a))
way true depth a b c ordered =
    let between = ordered refl in
    let parts : c - a ≡ (b - a) + (c - b) = omega (arith, between) in
    sym (ap (λ n. depth * n) parts ∙ mul-add depth (b - a) (c - b))
way false depth a b c ordered =
    let shorter : c - a ≤ (b - a) + (c - b) = omega arith in
    le_trans (mul-le-mul_left depth shorter) (le_of_eq (mul-add depth (b - a) (c - b)))

node-read : (forward read : Bool)
    (depth before start middle end last children rest total later after : ℕ) →
    (forward ≡ true → (before ≤ start) × (start ≤ middle) × (middle ≤ end) × (end ≤ last)) →
    AtLeast forward total
    (children + (inside read depth * (middle - start) + (inside read depth * (end - middle)
    + later))) → AtLeast forward later (rest + (depth * (last - end) + after)) →
    AtLeast forward (depth * (start - before) + total)
    ((own read (end - start) + children + rest) + (depth * (last - before) + after))
node-read true read depth before start middle end last children rest total later after ordered h k =
    let o = ordered refl in
    omega (
      arith,
      way true (inside read depth) start middle end (λ _. (o.1, o.2)),
      once read depth (end - start),
      way true depth before start end (λ _. omega (arith, o)),
      way true depth before end last (λ _. omega (arith, o)),
    )
node-read false read depth before start middle end last children rest total later after ordered h
    k =
    omega (
      arith,
      way false (inside read depth) start middle end (λ e. lie e),
      once read depth (end - start),
      way false depth before start end (λ e. lie e),
      way false depth before end last (λ e. lie e),
    )

-- nodes that are read, from an index to where the last event stands
record IsRead (forward : Bool) (forest : Forest) (index depth : ℕ) (after : List Event) : Type 0
  where
    read : AtLeast forward (read_from index depth (flatten forest ++ after))
        (lengths forest + (depth * (last_index index forest - index)
        + read_from (last_index index forest) depth after))
    ordered : forward ≡ true →
        (index ≤ last_index index forest) × GoesForward (last_index index forest) after

nodes-read : (forward : Bool) (forest : Forest) (index depth : ℕ) (after : List Event) →
    (forward ≡ true → GoesForward index (flatten forest ++ after)) →
    IsRead forward forest index depth after
nodes-read forward Empty index depth after goes = grind (arith, mul-zero)
nodes-read forward (Node name start end children rest) index depth after goes =
    let is : Bool = is_read name in
    let inner : ℕ = inside is depth in
    let later : List Event = flatten rest ++ after in
    let split = append_assoc (flatten children) (exiting name end ∷ flatten rest) after in
    let in_children : IsRead forward children start.index inner (exiting name end ∷ later) =
    nodes-read forward children start.index inner (exiting name end ∷ later)
    (λ e. rw split at (goes e).1) in
    let in_rest : IsRead forward rest end.index depth after =
    nodes-read forward rest end.index depth after (λ e. (in_children.ordered e).1.1) in
    grind (arith, node-read, exit_depth)

whole-read : (forward : Bool) (document : Forest) →
    (forward ≡ true → GoesForward 0 (flatten document)) →
    AtLeast forward (read_length (flatten document))
    (lengths document + (0 * (last_index 0 document - 0) + 0))
whole-read forward document goes =
    let all = append-nil (flatten document) in
    rw all at (nodes-read forward document 0 0 [] (λ e. rw all (goes e))).read

pub read-no_less : (document : Forest) → lengths document ≤ read_length (flatten document)
read-no_less document = omega (arith, whole-read false document (λ e. lie e))

pub read-exact : (document : Forest) → GoesForward 0 (flatten document) →
    read_length (flatten document) ≡ lengths document
read-exact document forward = omega (arith, whole-read true document (λ _. forward))
