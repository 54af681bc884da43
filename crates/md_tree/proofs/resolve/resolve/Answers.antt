-- A mention that is refused is unresolved, and after one that passes, all so far are resolved and
-- numbered. The search doesn't derive the mentions' definitions from the numbers:
-- `MentionsResolved` does.
use Rattle.std.proofs.Common.{below_more, get_or, sym}
use Rattle.md_tree.proofs.Common.{mentions_among, IsResolved, number_for}
use Rattle.md_tree.proofs.MentionsResolved.{numbered-kept, IsResolved-at, IsUnresolvedBy-at}
use Rattle.md_tree.proofs.resolve.resolve.Goals as goal

pub returns-in-Err-clause-refused : goal.returns-in-Err-clause-refused
returns-in-Err-clause-refused c =
    IsUnresolvedBy-at c.args.bytes.now c.args.mentions.now c.loop-mentioned.mentioned-index _
    c.in-Err.rule c.loop-mentioned-test.true (rw c.in-Err.is at
    (c.in_ok-number.ensures (mentions_among c.args.mentions.now) c.in_ok-definitions.ensures
    c.in_ok-footnotes.ensures))

pub loop-mentioned-preserved : goal.loop-mentioned-preserved
loop-mentioned-preserved c =
    let bytes = c.args.bytes.now in
    let mentions = c.args.mentions.now in
    let index = c.loop-mentioned.mentioned-index in
    let resolved =
    rw c.in-Ok.is at (c.in_ok-number.ensures (mentions_among mentions) c.in_ok-definitions.ensures
    c.in_ok-footnotes.ensures) in (
      λ k d below. below_more (λ i. IsResolved bytes (mentions_among mentions)
          (get_or (mentions_among mentions) i d)) index (λ i h. c.loop-mentioned.invariant.0 i d h)
          (IsResolved-at bytes mentions index _ d c.loop-mentioned-test.true resolved.0) k below,
      numbered-kept (number_for bytes (mentions_among mentions)) mentions index
          c.loop-mentioned.facts _ c.loop-mentioned-test.true c.loop-mentioned.invariant.1 _ _
          c.in-Ok.number (sym resolved.1) c.in_ok-keep_number-in-Ok.ensures,
    )
