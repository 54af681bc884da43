-- Each iteration continues where the previous one ended.
use Rattle.std.proofs.Common.{◌≡◌, ◌≤◌, ◌<◌, ℕ, Some, List, length, get_or, ap, arith}
use Rattle.std.specs.Prelude.{slice_get}
use Rattle.std.proofs.lemmas.Option.{slice_get-get_or}
use Rattle.md_base.specs.declared.event.Event.{Event}
use Rattle.md_html.specs.Stepping.{Goes}
use Rattle.md_html.proofs.Turns.{turn-within, goes-turn, goes-leaf, goes-few}
use Rattle.md_html.proofs.running.run_events.Goals as goal

there : (events found : List Event) (index to : ℕ) (other : Event) → found ≡ events → index < to →
    to ≤ length events → slice_get events index ≡ Some (get_or found index other)
there events found index to other same lt le = grind (arith, slice_get-get_or)

pub step-requires-clause-there : goal.step-requires-clause-there
step-requires-clause-there c = grind (arith, there)

pub step-requires-clause-few : goal.step-requires-clause-few
step-requires-clause-few c = grind (arith, goes-few)

pub overflow_add-index-else-branch : goal.overflow_add-index-else-branch
overflow_add-index-else-branch c =
    let within = turn-within _ c.loop-index.index _ c.in_ok-more.more c.leaf.new.printer
    c.step.new.printer c.requires.supplied c.events-events.ensures.grammatical
    (there _ c.events-events.result.now c.loop-index.index c.args.to _
    c.events-events.ensures.events c.loop-index-test.true c.requires.within)
    c.in_ok-more.ensures in
    omega (arith, within, ap (λ es. length es) c.events-events.ensures.events)

pub overflow_add-index-else-branch-2 : goal.overflow_add-index-else-branch-2
overflow_add-index-else-branch-2 c =
    let within = turn-within _ c.loop-index.index _ c.in_ok-more.more c.leaf.new.printer
    c.step.new.printer c.requires.supplied c.events-events.ensures.grammatical
    (there _ c.events-events.result.now c.loop-index.index c.args.to _
    c.events-events.ensures.events c.loop-index-test.true c.requires.within)
    c.in_ok-more.ensures in
    omega (arith, within, ap (λ es. length es) c.events-events.ensures.events)

pub loop-index-preserved-then-branch : goal.loop-index-preserved-then-branch
loop-index-preserved-then-branch c = grind (arith, goes-leaf, there)

pub loop-index-preserved : goal.loop-index-preserved
loop-index-preserved c =
    let goes : Goes c.args.context.now c.args.from c.loop-index.index c.args.to
    c.args.printer.now c.leaf.new.printer =
    rw (c.in_ok-leaf.ensures.same c.if-branch.false) c.loop-index.invariant in
    goes-turn _ c.args.from c.loop-index.index c.args.to _ c.args.printer.now c.leaf.new.printer
    c.step.new.printer
    (there _ c.events-events.result.now c.loop-index.index c.args.to _
    c.events-events.ensures.events c.loop-index-test.true c.requires.within)
    goes c.in_ok-more.more c.loop-index-test.true c.in_ok-more.ensures
