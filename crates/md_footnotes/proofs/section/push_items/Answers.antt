-- A footnote more is added with its id, its text and its ways back, and then the rest; at the end
-- none is left. By itself the search can't take the first of a list's rest, or lay pieces in parts.
use Rattle.std.proofs.Common.{ℕ, ◌+◌, List, ap, sym, ◌∙◌, arith, drop, string_bytes}
use Rattle.std.specs.List.{flat_map}
use Rattle.md_meaning.specs.Meaning.Layout.{Piece, laid_after}
use Rattle.md_meaning.specs.Meaning.Footnotes as meaning
use Rattle.md_steps.proofs.Laid.{laid-append}
use Rattle.md_footnotes.specs.Seen.{context_by}
use Rattle.md_footnotes.specs.Words.{item_of}
use Rattle.md_footnotes.proofs.Lists.{drop-found, drop-missing}
use Rattle.md_footnotes.proofs.section.push_items.Goals as goal

pub loop-called-preserved : goal.loop-called-preserved
loop-called-preserved c =
    let options = c.args.settings.now.options.now in
    let ending : List ℕ = c.args.settings.now.ending.now in
    let calls : List (List ℕ) = c.args.calls.now in
    let notes = c.args.notes.now in
    let out : List ℕ = string_bytes c.loop-called.out in
    let index : ℕ = c.loop-called.index in
    let called = c.in-Some.called in
    let q : List ℕ = called.identifier.now in
    let items : List (List ℕ) → List Piece =
    λ qs. flat_map (meaning.item (context_by options calls) notes) qs in
    let own : ℕ → ℕ → List ℕ → List Piece =
    λ number count text. item_of options q number count text in
    let rest : List (List ℕ) = drop (index + 1) (meaning.distinct calls) in (
      ap (λ t. laid_after ending t (items rest))
          (c.in_ok-push_item.ensures
          ∙ ap (λ n. laid_after ending out (own n called.count c.text_of.result.now))
          c.in-Some.ensures.number
          ∙ ap (λ n. laid_after ending out (own (meaning.place_among (meaning.distinct calls) q) n
          c.text_of.result.now)) c.in-Some.ensures.count
          ∙ ap (λ text. laid_after ending out (own (meaning.place_among (meaning.distinct calls) q)
          (meaning.count_of calls q) text)) c.text_of.ensures)
          ∙ sym (laid-append ending out
          (meaning.item (context_by options calls) notes q) (items rest))
          ∙ ap (λ qs. laid_after ending out (items qs))
          (sym (drop-found (meaning.distinct calls) index q (sym c.in-Some.ensures.identifier)))
          ∙ c.loop-called.invariant.0,
      omega (arith, c.in-Some.ensures.within),
    )

pub returns : goal.returns
returns c = grind (arith, drop-missing)
