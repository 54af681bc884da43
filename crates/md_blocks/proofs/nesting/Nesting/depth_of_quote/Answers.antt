-- The container that is read decides if it is a quote or a footnote.
use Rattle.std.proofs.Common.{◌∙◌, ◌+◌, sym, ap, take, if◌then◌else◌}
use Rattle.md_blocks.specs.Stack.{quotes_depth}
use Rattle.md_blocks.proofs.StackLemmas.{quotes-next}
use Rattle.md_blocks.proofs.nesting.Nesting.depth_of_quote.Goals as goal
use Rattle.md_blocks.proofs.nesting.Nesting.depth_of_quote.Goals.{then-is_quote_or_footnote, else-is_quote_or_footnote}

pub loop-index-preserved : goal.loop-index-preserved
loop-index-preserved c =
    let xs = c.deref-open-items.result.now in
    let i = c.loop-index.index in
    let same = c.deref-open-items.ensures.value in
    let before = quotes_depth (take i xs) in
    let next = quotes-next xs i _ c.loop-index-test.true in
    elim c.if-is_quote_or_footnote.branch [
      | then-is_quote_or_footnote w ↦ w.depth-is ∙ sym (next
          ∙ ap (λ b. if b then i + 1 else before)
          (sym c.is_quote_or_footnote.ensures ∙ w.if-is_quote_or_footnote.true))
          ∙ ap (λ ys. quotes_depth (take (i + 1) ys)) same
      | else-is_quote_or_footnote w ↦ w.depth-is ∙ c.loop-index.invariant
          ∙ ap (λ ys. quotes_depth (take i ys)) (sym same) ∙ sym (next
          ∙ ap (λ b. if b then i + 1 else before)
          (sym c.is_quote_or_footnote.ensures ∙ w.if-is_quote_or_footnote.false))
          ∙ ap (λ ys. quotes_depth (take (i + 1) ys)) same
    ]
