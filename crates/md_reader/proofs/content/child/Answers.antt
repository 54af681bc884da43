-- Blocks and spans in one list.
use Rattle.std.proofs.Common.{false}
use Rattle.md_safe.specs.Contents.{span_elements, block_elements}
use Rattle.md_reader.proofs.ContentLemmas.{allowed-left, allowed-right}
use Rattle.md_reader.proofs.content.child.Goals as goal

pub returns-in-Some : goal.returns-in-Some
returns-in-Some c = rw c.in-Flow.is (allowed-left (span_elements false) block_elements
    c.args.name.now
    c.in-Some.found c.in-Some.ensures)

pub returns-in-None : goal.returns-in-None
returns-in-None c = rw c.in-Flow.is (allowed-right (span_elements false) block_elements
    c.args.name.now c.block.result c.in-None.ensures c.block.ensures)
