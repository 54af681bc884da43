-- A node whose spine may end, but which breaks a rule, stops the walk. The search doesn't go
-- through the rules: one that is broken here is never that of the order.
use Rattle.std.proofs.Common.{refl, sym, ◌∙◌}
use Rattle.md_tree.proofs.Common.{reverse, point_at, outer_of, course_of}
use Rattle.md_tree.proofs.Stopped.{StopsInside-broken}
use Rattle.md_tree.proofs.walk.Walk.leave_read.Goals as goal

pub returns-in-Some-clause-refused : goal.returns-in-Some-clause-refused
returns-in-Some-clause-refused c =
    let events = c.args.input.events.now in
    rw c.refuse.ensures (
      refl,
      StopsInside-broken c.args.input.bytes.now c.args.input.names.now c.in-Some.rule
          (outer_of events (reverse c.args.self.now.targets.items) c.args.open_node.now)
          (point_at events c.args.open_node.now.entry) (point_at events c.args.index)
          (course_of events c.args.index c.args.self.now) c.requires
          (sym c.in_ok-rule.ensures.broken ∙ c.in-Some.is),
    )
