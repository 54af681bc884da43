-- The containers that are left decide how many match in all.
use Rattle.std.proofs.Common.{◌≡◌, ◌≤◌, drop, length}
use Rattle.md_blocks.specs.Containers.{matched}
use Rattle.md_blocks.specs.Positions.{rest_of}
use Rattle.md_blocks.proofs.matching.match_containers.Given as goal

abbrev pub invariant-loop-container : goal.invariant-loop-container
invariant-loop-container l = record {
  counted : l.matched ≡ l.container-index;
  few : l.matched ≤ length l.stack;
  at : l.initial.position.at ≤ l.position.at;
  line : l.position.line ≡ l.initial.position.line;
  ending : l.position.ending ≡ l.initial.position.ending;
  same : matched l.matched (drop l.container-index l.stack) (rest_of l.position)
      ≡ matched 0 l.stack (rest_of l.initial.position);
}
