-- The target of each definition is the one that the steps over its own events give.
use Rattle.std.proofs.Common.{◌++◌, ◌∷◌, [], ap, ◌∙◌}
use Rattle.std.proofs.lemmas.Option.{slice_get-get_or}
use Rattle.md_html.proofs.Owns.{targets_of, take-next, target-there, targets-all}
use Rattle.md_html.proofs.definitions.gathered.Goals as goal

pub loop-entry-preserved : goal.loop-entry-preserved
loop-entry-preserved c = λ at document supplies flat.
    let entries = c.definitions-entries.result.now in
    let place = c.loop-entry.entry-index in
    let target = c.in_ok-target.target in
    c.in_ok-push.ensures.items
    ∙ ap (λ xs. xs ++ target ∷ []) (c.loop-entry.invariant at document supplies flat)
    ∙ take-next (targets_of at document) place target
    (target-there c.args.context.now.checked.now document at c.events-events.ensures.grammatical
    flat entries place (c.definitions-entries.ensures.definitions document flat) _ target
    supplies.bytes (slice_get-get_or entries place _ c.loop-entry-test.true)
    (c.definitions-entries.ensures.entered place _ c.loop-entry-test.true)
    (λ one there. c.in_ok-target.ensures at document one supplies flat there))

pub returns : goal.returns
returns c = λ at document supplies flat.
    c.loop-entry.invariant at document supplies flat
    ∙ targets-all c.args.context.now.checked.now document at c.events-events.ensures.grammatical
    flat c.definitions-entries.result.now c.loop-entry.entry-index
    (c.definitions-entries.ensures.definitions document flat) c.loop-entry-test.false
