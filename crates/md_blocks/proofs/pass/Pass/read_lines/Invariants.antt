-- The lines left, read from the state so far, give what all lines give.
use Rattle.std.proofs.Common.{◌≡◌, ◌≤◌, ◌-◌, length, drop, true}
use Rattle.md_blocks.specs.Documents.{lines_of, lines_read}
use Rattle.md_blocks.specs.Passes.{state_of}
use Rattle.md_blocks.specs.Progress.{SkipsBlank}
use Rattle.md_blocks.proofs.pass.Pass.read_lines.Given as goal

abbrev pub invariant-lines : goal.invariant-lines
invariant-lines l = record {
  document : l.self.bytes ≡ l.initial.self.bytes;
  options : l.self.options ≡ l.initial.self.options;
  bytes : l.self.bytes.now ≡ l.bytes;
  within : l.at ≤ length l.bytes;
  skips : l.self.is_after_blank ≡ true → SkipsBlank (state_of l.self);
  left : lines_read l.initial.self.options.now (lines_of (drop l.at l.bytes)) (state_of l.self)
      ≡ lines_read l.initial.self.options.now (lines_of (drop l.from l.bytes))
      (state_of l.initial.self);
}

abbrev pub decreases-lines : goal.decreases-lines
decreases-lines l = length l.bytes - l.at
