-- A further blank line is read as the one before was.
use Rattle.std.proofs.Common.{ap, sym, ◌∙◌, ◌==◌, true}
use Rattle.md_blocks.specs.LeafBlocks.{blank_read, blank_waits}
use Rattle.md_blocks.specs.Containers.{matched}
use Rattle.md_blocks.specs.Passes.{defined_in, state_of}
use Rattle.md_blocks.specs.Positions.{ending_of, rest_of}
use Rattle.md_blocks.specs.Rests.{is_blank_rest}
use Rattle.md_blocks.proofs.Skipping.{blank_skips}
use Rattle.md_blocks.proofs.pass.Pass.read_in_containers.Goals as goal

pub returns-clause-skips : goal.returns-clause-skips
returns-clause-skips c is options ended rest ending further =
    let p = c.args.self.now in
    let new = c.read_after.new.self in
    let at = c.match_containers-matched.new.position in
    let line = rest_of c.args.position.now in
    let found = c.in_ok-is_blank.ensures.blank (c.skips_next-self.ensures.blank is) in
    let some = c.skips_next-self.ensures.ended is in
    let is_whole = c.match_containers-matched.result == c.depth.result in
    let count = c.match_containers-matched.ensures.count
    ∙ ap (λ those. (matched 0 those line).count) c.as_slice.ensures.value in
    let left = c.match_containers-matched.ensures.rest
    ∙ ap (λ those. (matched 0 those line).rest) c.as_slice.ensures.value in
    blank_skips options (defined_in p) is_whole ended line rest (ending_of p.bytes.now at) ending (state_of p)
    (state_of new)
    (found.1
    ∙ ap (λ so. blank_waits so (blank_read (defined_in p) c.match_containers-matched.result is_whole (rest_of at)
    (ending_of p.bytes.now at) (state_of p))) some
    ∙ ap (λ k. blank_waits true (blank_read (defined_in p) k is_whole (rest_of at) (ending_of p.bytes.now at) (state_of p)))
    count
    ∙ ap (λ r. blank_waits true (blank_read (defined_in p) (matched 0 (state_of p).containers line).count is_whole r
    (ending_of p.bytes.now at) (state_of p))) left)
    (ap is_blank_rest (sym left) ∙ found.0)
    (c.skips_next-self.ensures.leaf is) (c.skips_next-self.ensures.quotes is) further
