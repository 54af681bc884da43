-- All segments are written, each but the first after a slash.
use Rattle.std.proofs.Common.{◌∙◌, append-nil, append_assoc}
use Rattle.std.proofs.Math.ListN.{drop_of_length-le}
use Rattle.md_urls.proofs.Paths.{joined-first}
use Rattle.md_urls.proofs.path.push_joined.Goals as goal

pub returns : goal.returns
returns c =
    rw (c.in-Some.ensures.cases.0, joined-first)
    (rw (drop_of_length-le c.in-Some.rest.now c.loop-segment-test.false, append-nil) at
    c.loop-segment.invariant
    ∙ rw c.in_ok-extend_from_slice.ensures.items
    (append_assoc c.args.path.now.items c.in-Some.first.now.now _))
