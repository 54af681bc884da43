-- Each iteration moves forward in the same line, and what is left of it gives the same state.
use Rattle.std.proofs.Common.{◌≡◌, ◌-◌, length, nat_lt, false}
use Rattle.md_blocks.specs.BlockStructure.{begun}
use Rattle.md_blocks.specs.Passes.{defined_in, state_of}
use Rattle.md_blocks.specs.Positions.{ending_of, rest_of}
use Rattle.md_blocks.proofs.Folds.{Left}
use Rattle.md_blocks.proofs.pass.Pass.begin_blocks.Given as goal

abbrev pub invariant-parts : goal.invariant-parts
invariant-parts l = record {
  line : l.position.line ≡ l.initial.position.line;
  ending : l.position.ending ≡ l.initial.position.ending;
  document : l.self.bytes ≡ l.initial.self.bytes;
  options : l.self.options ≡ l.initial.self.options;
  first : l.has_begun ≡ false → l.depth ≡ l.matched;
  same : l.has_begun ≡ false → (l.self ≡ l.initial.self) × (l.position ≡ l.initial.position);
  left : Left (length l.position.line.now - l.position.at) l.initial.self.options.now l.depth l.is_whole
      (nat_lt 0 l.initial.position.ending) l.has_begun (rest_of l.position)
      (ending_of l.initial.self.bytes.now l.initial.position) (state_of l.self)
      (begun (length
      (rest_of l.initial.position).text) l.initial.self.options.now
      (defined_in l.initial.self) l.matched l.is_whole (nat_lt 0 l.initial.position.ending) false
      (rest_of l.initial.position) (ending_of l.initial.self.bytes.now l.initial.position)
      (state_of l.initial.self));
}

abbrev pub decreases-parts : goal.decreases-parts
decreases-parts l = length l.position.line.now - l.position.at
