-- In each iteration, the set has the identifiers of the footnote definitions before this mention.
use Rattle.std.proofs.Common.{drop}
use Rattle.md_tree.proofs.Common.{footnoted, mentions_among, IdentifiersBefore}
use Rattle.md_tree.proofs.resolve.footnotes.Given as goal

abbrev pub invariant-loop-mentioned : goal.invariant-loop-mentioned
invariant-loop-mentioned l =
    IdentifiersBefore l.identifiers
    (footnoted l.bytes (mentions_among (drop l.mentioned-index l.mentions)))
    (footnoted l.bytes (mentions_among l.mentions))
