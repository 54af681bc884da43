-- A call more of an identifier that has a place counts there, a new identifier comes last: what
-- is kept is then what the calls and one more tally to. No count passes the number of calls, and
-- the list of these is shorter than 2 ^ 63. By itself the search can't go from places in a map to
-- the list of calls.
use Rattle.std.proofs.Common.{ℕ, List, arith, ap, sym, ◌∙◌, [], ◌∷◌, ◌++◌, string_bytes}
use Rattle.std.specs.BTreeMap.{get_by_text}
use Rattle.std.proofs.lemmas.List.{length-map}
use Rattle.md_footnotes.specs.Entries.{tally, calls_in, identifier_in, place_in}
use Rattle.md_footnotes.proofs.Numbers.{count-below}
use Rattle.md_footnotes.proofs.Placing.{place-below}
use Rattle.md_footnotes.proofs.PlacedCalls.{Keeps, kept-again, kept-new, count-kept}
use Rattle.md_footnotes.proofs.MappedPlaces.{places-again}
use Rattle.md_footnotes.proofs.calls.Calls.count.Goals as goal

pub count_again-requires-clause-within : goal.count_again-requires-clause-within
count_again-requires-clause-within c = grind (arith, place-below)

pub count_again-requires-clause-fits : goal.count_again-requires-clause-fits
count_again-requires-clause-fits c =
    let q : List ℕ = string_bytes c.args.identifier in
    let entries = c.self.inside.counts.items in
    let order = c.self.inside.order in
    let calls : List (List ℕ) = calls_in entries order.items in
    let counted = count-kept entries calls q c.in-Some.place (sym (c.self.invariant.0 q)
    ∙ ap (λ text. get_by_text c.self.inside.places text) (sym c.as_str.ensures.value)
    ∙ sym c.place_under.ensures ∙ c.in-Some.is) c.self.invariant.1 in
    let below = count-below calls q in
    let as_long = length-map order.items (λ place. identifier_in entries place) in
    omega (arith, counted, below, as_long, order.ok.0, order.ok.1, order.small)

after_new : (c : goal.After-push_reserved-in-None) →
    Keeps c.put_last.new.entries.items c.push_reserved-in-None.new.self.items
    (calls_in c.self.inside.counts.items c.self.inside.order.items
    ++ string_bytes c.args.identifier ∷ [])
after_new c =
    let q : List ℕ = string_bytes c.args.identifier in
    let entries = c.self.inside.counts.items in
    let order : List ℕ = c.self.inside.order.items in
    kept-new entries c.put_last.new.entries.items order
    c.push_reserved-in-None.new.self.items c.args.identifier
    c.in_ok-put_last-in-None.ensures.entries
    (c.push_reserved-in-None.ensures.items
    ∙ ap (λ ps. ps ++ c.len-place.result ∷ []) c.reserve.ensures.items
    ∙ ap (λ n. order ++ n ∷ []) (c.len-place.ensures ∙ c.self.inside.counts.ok.0))
    (sym (c.self.invariant.0 q)
    ∙ ap (λ text. get_by_text c.self.inside.places text) (sym c.as_str.ensures.value)
    ∙ sym c.place_under.ensures ∙ c.in-None.is) c.self.invariant.1 c.self.invariant.2

pub invariant_of-self-in-Some-1 : goal.invariant_of-self-in-Some-1
invariant_of-self-in-Some-1 c =
    let q : List ℕ = string_bytes c.args.identifier in
    let place : ℕ = c.in-Some.place in
    let keeps =
    kept-again c.self.inside.counts.items c.count_again.new.counts.items c.self.inside.order.items
    c.push_reserved.new.self.items q place c.count_again.ensures
    (c.push_reserved.ensures.items ∙ ap (λ ps. ps ++ place ∷ []) c.reserve.ensures.items)
    (sym (c.self.invariant.0 q)
    ∙ ap (λ text. get_by_text c.self.inside.places text) (sym c.as_str.ensures.value)
    ∙ sym c.place_under.ensures ∙ c.in-Some.is) c.self.invariant.1 c.self.invariant.2 in (
      λ q. c.self.invariant.0 q
          ∙ sym (ap (λ es. place_in es q) c.count_again.ensures
          ∙ places-again c.self.inside.counts.items c.in-Some.place q),
      keeps.1 ∙ ap (λ cs. tally cs) (sym keeps.0),
      keeps.2,
    )

pub invariant_of-self-in-None : goal.invariant_of-self-in-None
invariant_of-self-in-None c =
    let keeps = after_new c in (
      c.put_last.ensures.found,
      keeps.1 ∙ ap (λ cs. tally cs) (sym keeps.0),
      keeps.2,
    )

pub returns-in-Some : goal.returns-in-Some
returns-in-Some c = grind (arith, kept-again)

pub returns-in_ok-put_last-in-None : goal.returns-in_ok-put_last-in-None
returns-in_ok-put_last-in-None c =
    (after_new c).0 ∙ ap (λ cs. cs ++ string_bytes c.args.identifier ∷ []) c.self.view_is
