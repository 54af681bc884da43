-- In each iteration, the count and the remaining definitions add up to all of them.
use Rattle.std.proofs.Common.{◌≡◌, ◌+◌, ◌≤◌, ℕ, List, drop, length}
use Rattle.md_tree.proofs.Common.{defined, mentions_among}
use Rattle.md_tree.proofs.resolve.definition_count.Given as goal

abbrev pub invariant-loop-mentioned : goal.invariant-loop-mentioned
invariant-loop-mentioned l =
    (l.count ≤ l.mentioned-index) × ((bytes : List ℕ) →
    l.count + length (defined bytes (mentions_among (drop l.mentioned-index l.mentions)))
    ≡ length (defined bytes (mentions_among l.mentions)))
