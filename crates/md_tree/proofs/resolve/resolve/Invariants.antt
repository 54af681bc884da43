-- In each iteration, each mention before this one is resolved, and the facts with the numbers of
-- the remaining mentions are those with all numbers.
use Rattle.std.proofs.Common.{◌≡◌, ℕ, ◌<◌, get_or, drop}
use Rattle.md_tree.proofs.Common.{Mention, mentions_among, IsResolved, numbered, number_for}
use Rattle.md_tree.proofs.resolve.resolve.Given as goal

abbrev pub invariant-loop-mentioned : goal.invariant-loop-mentioned
invariant-loop-mentioned l =
    ((k : ℕ) (d : Mention) → k < l.mentioned-index → IsResolved l.bytes (mentions_among l.mentions)
    (get_or (mentions_among l.mentions) k d))
    × (numbered (number_for l.bytes (mentions_among l.mentions))
    (drop l.mentioned-index l.mentions) l.facts
    ≡ numbered (number_for l.bytes (mentions_among l.mentions)) l.mentions l.fn.facts)
