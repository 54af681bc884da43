-- The count at an identifier's place is how often it is called; without a place that is 0. None
-- passes the number of all calls, and the list of these is shorter than 2 ^ 63.
-- By itself the search can't go from places in a map to the list of calls.
use Rattle.std.proofs.Common.{◌≡◌, ℕ, List, arith, ap, sym, ◌∙◌}
use Rattle.std.specs.Option.{option_map_or}
use Rattle.std.proofs.lemmas.List.{length-map}
use Rattle.md_meaning.specs.Meaning.Footnotes.{count_of}
use Rattle.md_footnotes.specs.Entries.{calls_in, count_in, identifier_in}
use Rattle.md_footnotes.proofs.Numbers.{count_among, count-same, count-below}
use Rattle.md_footnotes.proofs.Placing.{count-at}
use Rattle.md_footnotes.proofs.PlacedCalls.{count-kept}
use Rattle.md_footnotes.proofs.calls.Calls.count_of.Goals as goal

counted : (c : goal.After-count_at) → c.count_at.result
    ≡ count_of (calls_in c.self.inside.counts.items c.self.inside.order.items) c.args.identifier.now
counted c = grind (arith, count-kept)

pub returns-in-Some-clause-count : goal.returns-in-Some-clause-count
returns-in-Some-clause-count c =
    counted c ∙ ap (λ cs. count_of cs c.args.identifier.now) c.self.view_is

pub returns-in-Some-clause-fits : goal.returns-in-Some-clause-fits
returns-in-Some-clause-fits c =
    let entries = c.self.inside.counts.items in
    let order = c.self.inside.order in
    let below = count-below (calls_in entries order.items) c.args.identifier.now in
    let as_long = length-map order.items (λ place. identifier_in entries place) in
    omega (arith, counted c, below, as_long, order.ok.0, order.ok.1, order.small)

pub returns-in-None-clause-count : goal.returns-in-None-clause-count
returns-in-None-clause-count c =
    let entries = c.self.inside.counts.items in
    let calls : List (List ℕ) = calls_in entries c.self.inside.order.items in
    let q : List ℕ = c.args.identifier.now in
    ap (λ o. option_map_or (λ place. count_in entries place) o 0)
    (sym (sym (c.self.invariant.0 q) ∙ sym c.place_under.ensures ∙ c.in-None.is))
    ∙ count-at entries q
    ∙ ap (λ cs. count_among cs q) c.self.invariant.1
    ∙ count-same calls q
    ∙ ap (λ cs. count_of cs q) c.self.view_is
