-- The segments that are left change those that are kept as all segments change none.
use Rattle.std.proofs.Common.{◌≡◌, [], map, drop}
use Rattle.md_urls.specs.Resolved.{settle}
use Rattle.md_urls.proofs.path.settle.Given as goal

abbrev pub invariant-loop-index : goal.invariant-loop-index
invariant-loop-index l =
    settle (map (λ part. part.now) l.kept.items) (map (λ part. part.now) (drop l.index l.segments))
    ≡ settle [] (map (λ part. part.now) l.segments)
