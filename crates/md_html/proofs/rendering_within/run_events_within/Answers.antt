-- Each iteration continues where the previous one ended; a text that is too long while nothing is
-- captured stays so.
use Rattle.std.proofs.Common.{rules, ◌≤◌, length, ap, arith}
use Rattle.md_html.specs.Stepping.{Goes}
use Rattle.md_html.proofs.Turns.{goes-few, goes-on}
use Rattle.md_html.proofs.Long.{whole-run, longer-run}
use Rattle.md_html.proofs.rendering_within.run_events_within.Goals as goal

pub run_events-requires-clause-few : goal.run_events-requires-clause-few
run_events-requires-clause-few c = grind (arith, goes-few)

pub loop-index-preserved : goal.loop-index-preserved
loop-index-preserved c =
    let most : c.min-to.result ≤ length c.events-count.result.now = search rules in
    goes-on _ _ _ _ _ _ _ _ _ most c.loop-index.invariant c.in_ok-index.ensures.goes

pub returns-then-is_longer-clause-too_long : goal.returns-then-is_longer-clause-too_long
returns-then-is_longer-clause-too_long c = λ no.
    let count = length c.events-count.result.now in
    let most : c.min-to.result ≤ count = search rules in
    let on : Goes c.args.context.now 0 c.in_ok-index.index count c.args.printer.now
    c.run_events.new.printer =
    goes-on _ _ _ _ _ _ _ _ _ most c.loop-index.invariant c.in_ok-index.ensures.goes in
    longer-run _ c.in_ok-index.index count c.run_events.new.printer
    (ap (λ es. length es) c.events-count.ensures.events) (rw c.requires.new at on)
    c.args.limit (c.is_longer.ensures c.if-is_longer.true)

pub returns-clause-whole : goal.returns-clause-whole
returns-clause-whole c = grind (arith, whole-run)
