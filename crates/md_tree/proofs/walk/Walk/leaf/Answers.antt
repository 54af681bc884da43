-- The result of `leaf` where a node may be: the walk's course after both its events, or why the
-- exit stops it. The search doesn't find the course between the two events, which the code never
-- computes.
use Rattle.std.proofs.Common.{Some, None, sym, ap, ◌∙◌, add-one, suc}
use Rattle.md_tree.proofs.Common.{option_map, point_at, course_of, state_of}
use Rattle.md_tree.proofs.Leaves.{passes-over, Passes-solid, IsStopAtLeaf-open}
use Rattle.md_tree.proofs.Leaves.{IsStopAtLeaf-broken, no-table-over, no-table-solid}
use Rattle.md_tree.proofs.walk.Walk.leaf.Goals as goal

pub returns-in-Through-clause-ok : goal.returns-in-Through-clause-ok
returns-in-Through-clause-ok c =
    let events = c.args.input.events.now in
    let self = c.args.self.now in
    passes-over c.args.input.bytes.now c.args.input.names.now c.args.name
    (point_at events c.args.index) (point_at events (suc c.args.index))
    (course_of events c.args.index self) (sym c.may_hold.ensures ∙ c.if-not-may_hold.false)
    (rw c.standing_of.ensures at c.in-Through.is)

pub returns-in-Through-clause-no_table : goal.returns-in-Through-clause-no_table
returns-in-Through-clause-no_table c =
    no-table-over c.args.name
    (rw c.standing_of.ensures at c.in-Through.is)

pub returns-then-not-can_hold_empty-clause-refused :
    goal.returns-then-not-can_hold_empty-clause-refused
returns-then-not-can_hold_empty-clause-refused c =
    let events = c.args.input.events.now in
    let index = c.args.index in
    let moved = sym c.after.ensures
    ∙ ap (option_map (λ n. state_of n (Some c.in-Solid.symbol))) c.in-Some.is in
    rw (c.refuse-then-not-can_hold_empty.ensures, add-one) (IsStopAtLeaf-open c.args.name
    (point_at events index) (point_at events (suc index)) (course_of events index c.args.self.now)
    (sym c.may_hold.ensures ∙ c.if-not-may_hold.false) (sym c.standing_of.ensures ∙ c.in-Solid.is)
    moved c.args.input.bytes.now c.args.input.names.now index
    (sym c.can_hold_empty.ensures ∙ c.if-not-can_hold_empty.true))

pub returns-in-Some-2-clause-refused : goal.returns-in-Some-2-clause-refused
returns-in-Some-2-clause-refused c =
    let events = c.args.input.events.now in
    let index = c.args.index in
    let moved = sym c.after.ensures
    ∙ ap (option_map (λ n. state_of n (Some c.in-Solid.symbol))) c.in-Some.is in
    let breaks = rw add-one at (sym c.in_ok-rule-in-Solid.ensures.broken ∙ c.in-Some-2.is) in
    rw (c.refuse-in-Some-2.ensures, add-one) (IsStopAtLeaf-broken c.args.name
    (point_at events index) (point_at events (suc index)) (course_of events index c.args.self.now)
    (sym c.may_hold.ensures ∙ c.if-not-may_hold.false) (sym c.standing_of.ensures ∙ c.in-Solid.is)
    moved c.args.input.bytes.now c.args.input.names.now index c.in-Some-2.rule
    (sym c.can_hold_empty.ensures ∙ c.if-not-can_hold_empty.false) breaks)

pub returns-in_default-2-clause-ok : goal.returns-in_default-2-clause-ok
returns-in_default-2-clause-ok c =
    let events = c.args.input.events.now in
    let index = c.args.index in
    let moved = sym c.after.ensures
    ∙ ap (option_map (λ n. state_of n (Some c.in-Solid.symbol))) c.in-Some.is in
    let sound = rw add-one at (sym c.in_ok-rule-in-Solid.ensures.broken ∙ c.in_default-2.is) in
    let target_is = rw add-one at (c.in_ok-rule-in-Solid.ensures.target events) in
    Passes-solid c.args.name (point_at events index) (point_at events (suc index))
    (course_of events index c.args.self.now) (sym c.may_hold.ensures ∙ c.if-not-may_hold.false)
    (sym c.standing_of.ensures ∙ c.in-Solid.is) moved c.args.input.bytes.now
    c.args.input.names.now _
    (sym c.can_hold_empty.ensures ∙ c.if-not-can_hold_empty.false) sound target_is

pub returns-in_default-2-clause-no_table : goal.returns-in_default-2-clause-no_table
returns-in_default-2-clause-no_table c =
    no-table-solid c.args.name c.in-Solid.symbol c.in-Solid.usual c.in-Solid.reading
    (state_of c.args.self.now.place None).role
    c.args.self.now.before (sym c.standing_of.ensures ∙ c.in-Solid.is)
    (sym c.can_hold_empty.ensures ∙ c.if-not-can_hold_empty.false)
