-- Where no event is left at the index, all of them have been read. The search goes through all that
-- is known before it sees it.
use Rattle.std.proofs.Common.{◌≡◌, ℕ, ◌≤◌, List, length, take, ap, ◌∙◌, subst, arith}
use Rattle.std.proofs.lemmas.List.{take_all}
use Rattle.md_tree.proofs.Common.{Event, first_index, PassState, passed_over}
use Rattle.md_tree.proofs.Common.{pass_beginning, Runs, beginning, course_of, Unbroken}
use Rattle.md_pattern.specs.Columns.{Collected}
use Rattle.md_tree.proofs.grammar.read_events.Goals as goal

-- this many events are all
all_read : (events : List Event) (count : ℕ) → count ≤ length events → length events ≤ count →
    count ≡ length events
all_read events count within all = omega arith

pub loop-event-preserved : goal.loop-event-preserved
loop-event-preserved c = (c.in_ok-visits.ensures.read, c.in_ok-visits.ensures.counted.1)

pub returns-clause-walked : goal.returns-clause-walked
returns-clause-walked c =
    let events = c.args.input.events.now in
    let passes = Unbroken c.args.input.bytes.now c.args.input.names.now in
    let count = c.loop-event.visits in
    let all = c.in_default.ensures.lookup.3 in
    subst (λ es. Runs passes es beginning
    (course_of events (length events) c.loop-event.reader.walk)) (take_all count events all)
    (subst (λ n. Runs passes (take count events) beginning
    (course_of events n c.loop-event.reader.walk))
    (all_read events count c.loop-event.invariant.1 all) c.loop-event.invariant.0.walked)

pub returns-clause-facts : goal.returns-clause-facts
returns-clause-facts c =
    c.into_facts-found.ensures.facts ∙ ap PassState.facts (c.loop-event.invariant.0.passed
    ∙ ap (λ es. passed_over es pass_beginning)
    (take_all c.loop-event.visits c.args.input.events.now c.in_default.ensures.lookup.3))

pub returns-clause-tables : goal.returns-clause-tables
returns-clause-tables c =
    c.into_facts-found.ensures.tables ∙ ap (λ (p : PassState). Collected.tables p.columns)
    (c.loop-event.invariant.0.passed ∙ ap (λ es. passed_over es pass_beginning)
    (take_all c.loop-event.visits c.args.input.events.now c.in_default.ensures.lookup.3))

pub returns-clause-definitions : goal.returns-clause-definitions
returns-clause-definitions c =
    c.into_facts-found.ensures.definitions ∙ ap PassState.definitions
    (c.loop-event.invariant.0.passed ∙ ap (λ es. passed_over es pass_beginning)
    (take_all c.loop-event.visits c.args.input.events.now c.in_default.ensures.lookup.3))

pub returns-clause-first_ending : goal.returns-clause-first_ending
returns-clause-first_ending c =
    c.into_facts-found.ensures.first_ending ∙ c.loop-event.invariant.0.first_ending ∙ ap first_index
    (take_all c.loop-event.visits c.args.input.events.now c.in_default.ensures.lookup.3)

pub returns-clause-visits : goal.returns-clause-visits
returns-clause-visits c =
    c.into_facts-found.ensures.visits ∙ all_read c.args.input.events.now c.loop-event.visits
    c.loop-event.invariant.1 c.in_default.ensures.lookup.3
