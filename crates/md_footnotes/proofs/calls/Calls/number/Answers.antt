-- An identifier's number is one more than its place, which is below the length of the list: so it
-- fits. By itself the search can't go from places in a map to the list of calls.
use Rattle.std.proofs.Common.{ℕ, List, [], ◌∷◌, ◌++◌, ◌+◌, ap, sym, ◌∙◌, arith, length}
use Rattle.std.specs.Option.{option_map_or}
use Rattle.md_meaning.specs.Meaning.Footnotes.{distinct, place_among}
use Rattle.md_footnotes.specs.Entries.{calls_in}
use Rattle.md_footnotes.proofs.Numbers.{number_among, number-same}
use Rattle.md_footnotes.proofs.Placing.{place-below, number-at}
use Rattle.md_footnotes.proofs.calls.Calls.number.Goals as goal

pub overflow_add-result : goal.overflow_add-result
overflow_add-result c = grind (arith, place-below)

pub returns-in-Some : goal.returns-in-Some
returns-in-Some c =
    let entries = c.self.inside.counts.items in
    let calls : List (List ℕ) = calls_in entries c.self.inside.order.items in
    let q : List ℕ = c.args.identifier.now in
    ap (λ o. option_map_or (λ place. place + 1) o (length entries + 1))
    (sym (sym (c.self.invariant.0 q) ∙ sym c.place_under.ensures ∙ c.in-Some.is))
    ∙ number-at entries q
    ∙ ap (λ cs. number_among cs q) c.self.invariant.1
    ∙ number-same calls q
    ∙ ap (λ cs. place_among (distinct (cs ++ q ∷ [])) q) c.self.view_is

pub returns-in-None : goal.returns-in-None
returns-in-None c =
    let entries = c.self.inside.counts.items in
    let calls : List (List ℕ) = calls_in entries c.self.inside.order.items in
    let q : List ℕ = c.args.identifier.now in
    ap (λ n. n + 1) (c.len-len.ensures ∙ c.self.inside.counts.ok.0)
    ∙ ap (λ o. option_map_or (λ place. place + 1) o (length entries + 1))
    (sym (sym (c.self.invariant.0 q) ∙ sym c.place_under.ensures ∙ c.in-None.is))
    ∙ number-at entries q
    ∙ ap (λ cs. number_among cs q) c.self.invariant.1
    ∙ number-same calls q
    ∙ ap (λ cs. place_among (distinct (cs ++ q ∷ [])) q) c.self.view_is
