-- The entry at an index is the distinct identifier at that index, with its count. The search alone
-- does no induction over the entries.
use Rattle.std.proofs.Common.{◌≡◌, ℕ, ◌+◌, suc, List, String, Global, Some, length, refl, ap, sym}
use Rattle.std.proofs.Common.{◌∙◌, arith, rules, string_bytes}
use Rattle.std.specs.Prelude.{slice_get}
use Rattle.std.proofs.lemmas.Option.{slice_get_read}
use Rattle.md_meaning.specs.Meaning.Footnotes.{distinct, count_of, place_among}
use Rattle.md_footnotes.specs.Entries.{calls_in}
use Rattle.md_footnotes.proofs.PlacedCalls.{entry-called}
use Rattle.md_footnotes.proofs.Numbers.{number-at-index}
use Rattle.md_footnotes.proofs.calls.Calls.at.Goals as goal

next : (n : ℕ) → n + 1 ≡ suc n
next n = omega arith

pub returns : goal.returns
returns c =
    let entries = c.self.inside.counts.items in
    let calls : List (List ℕ) = calls_in entries c.self.inside.order.items in
    let e : String Global × ℕ = c.in_ok-identifier.field-0.now in
    let called =
    entry-called entries (count_of calls) (distinct calls) c.args.index e c.self.invariant.1
    (ap (λ es. slice_get es c.args.index) (sym c.deref.ensures.value)
    ∙ slice_get_read c.deref.result.now (length c.deref.result.now) c.args.index e refl
    c.in_ok-identifier.ensures.lookup.3.0 c.in_ok-identifier.ensures.lookup.1) in
    record {
      identifier = ap (λ x. Some x) c.as_str.ensures.value ∙ sym called.0
          ∙ ap (λ cs. slice_get (distinct cs) c.args.index) c.self.view_is;
      number =
          next c.args.index ∙ sym (number-at-index calls c.args.index (string_bytes e.0) called.0)
          ∙ ap (λ x. place_among (distinct calls) x) (sym c.as_str.ensures.value)
          ∙ ap (λ cs. place_among (distinct cs) c.as_str.result.now) c.self.view_is;
      count = called.1 ∙ ap (λ x. count_of calls x) (sym c.as_str.ensures.value)
          ∙ ap (λ cs. count_of cs c.as_str.result.now) c.self.view_is;
      within = search rules;
      fits = search rules;
    }
