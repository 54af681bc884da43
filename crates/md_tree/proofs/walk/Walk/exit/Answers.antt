-- What stops `leave` stops the walk at this exit. `leave` is called when the innermost node is off
-- the stack, and the search can't go from that walk back to the one before.
use Rattle.std.proofs.Common.{◌≡◌, if◌then◌else◌, List, [], ◌∷◌, ◌++◌, Some, None, Result, Ok, Err}
use Rattle.std.proofs.Common.{ap, ◌∙◌}
use Rattle.std.specs.Prelude.{IfErr}
use Rattle.md_tree.proofs.Common.{reverse, reverse-append, Event, Aim, point_at}
use Rattle.md_tree.proofs.Common.{outer_of, opens_at, opens_seen, course_of}
use Rattle.md_tree.specs.declared.open_nodes.Open.{Open as KeptOpen}
use Rattle.md_tree.specs.Walk.{open_seen, targets_around, is_aimed}
use Rattle.md_tree.proofs.Stopped.{IsStop-inside}
use Rattle.md_tree.proofs.walk.Walk.exit.Goals as goal

-- a claim of an error
on_error : {A E : Type 0} (P Q : E → Type 0) → ((e : E) → P e → Q e) →
    (result : Result A E) → IfErr result P → IfErr result Q
on_error P Q f (Ok a) p = tt
on_error P Q f (Err e) p = f e p

opens_pushed : (events : List Event) (targets : List Aim) (left : List KeptOpen)
    (open_node : KeptOpen) → opens_seen events targets (left ++ open_node ∷ []) ≡ open_seen events
    targets open_node ∷ opens_seen events (targets_around (is_aimed open_node) targets) left
opens_pushed events targets left open_node =
    ap (opens_at events targets) (reverse-append left (open_node ∷ []))

pub returns-then-open_node-clause-refused : goal.returns-then-open_node-clause-refused
returns-then-open_node-clause-refused c =
    let events = c.args.input.events.now in
    let left = c.pop.new.self.items in
    let self = c.args.self.now in
    let bytes = c.args.input.bytes.now in
    let names = c.args.input.names.now in
    let open_node = c.in-Some.open_node in
    let targets = reverse self.targets.items in
    let outer = outer_of events targets open_node in
    let opens_are = ap (opens_seen events targets) c.in-Some.ensures.items
    ∙ opens_pushed events targets left open_node in
    on_error _ _ (λ refusal. IsStop-inside bytes names c.args.index refusal
    (opens_seen events (targets_around (is_aimed open_node) targets) left)
    (opens_seen events targets left) (open_seen events targets open_node) outer c.args.name
    (point_at events c.args.index) (course_of events c.args.index self) opens_are
    (c.is_same_name.ensures.0 c.if-not-is_same_name.false)
    (ap (λ stands. if stands then Some outer else None) c.if-open_node.true))
    c.leave.result c.leave.ensures.refused

pub returns-else-open_node-clause-ok : goal.returns-else-open_node-clause-ok
returns-else-open_node-clause-ok c =
    let events = c.args.input.events.now in
    let left = c.pop.new.self.items in
    let self = c.args.self.now in
    let open_node = c.in-Some.open_node in
    let targets = reverse self.targets.items in
    rw (
      ap (opens_seen events targets) c.in-Some.ensures.items,
      opens_pushed events targets left open_node,
    )
    (c.is_same_name.ensures.0 c.if-not-is_same_name.false, rw c.if-open_node.false)
