-- Each iteration goes on to the line after a definition.
use Rattle.std.proofs.Common.{◌≡◌, ◌≤◌, ◌+◌, ◌-◌, length}
use Rattle.md_blocks.specs.LinkDefinitions.{defined_from}
use Rattle.md_blocks.specs.Passes.{texts_from}
use Rattle.md_blocks.proofs.closing.after_definitions.Given as goal

abbrev pub invariant-definitions : goal.invariant-definitions
invariant-definitions l = record {
  after : l.from ≤ l.at;
  within : l.at ≤ length l.lines;
  rest : l.from + defined_from 0 (texts_from l.bytes l.lines l.from)
      ≡ l.at + defined_from 0 (texts_from l.bytes l.lines l.at);
}

abbrev pub decreases-definitions : goal.decreases-definitions
decreases-definitions l = length l.lines - l.at
