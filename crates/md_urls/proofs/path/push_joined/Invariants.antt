-- What is written, and the segments that are left, each after a slash, are the whole.
use Rattle.std.proofs.Common.{◌≡◌, ◌++◌, ◌∷◌, map, drop, flat_map}
use Rattle.md_urls.proofs.path.push_joined.Given as goal

abbrev pub invariant-loop-segment : goal.invariant-loop-segment
invariant-loop-segment l =
    l.path.items ++ flat_map (λ part. 47 ∷ part) (map (λ part. part.now) (drop l.segment-index l.rest))
    ≡ l.initial.path.items ++ flat_map (λ part. 47 ∷ part) (map (λ part. part.now) l.rest)
