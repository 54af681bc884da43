-- What is passed has no end of the block.
use Rattle.std.proofs.Common.{◌≡◌, ◌≤◌, length}
use Rattle.md_blocks.specs.HtmlBlocks.{is_html_end}
use Rattle.md_blocks.proofs.html.HtmlKind.is_ended_by.Given as goal

abbrev pub invariant-loop-at : goal.invariant-loop-at
invariant-loop-at l =
    (length l.rest ≤ length l.line) × (is_html_end l.self l.line ≡ is_html_end l.self l.rest)

abbrev pub decreases-loop-at : goal.decreases-loop-at
decreases-loop-at l = length l.rest
