-- What is passed is written as it is.
use Rattle.std.proofs.Common.{◌-◌, length}
use Rattle.md_text.specs.Kept.{AreKept}
use Rattle.md_text.proofs.url.kept.kept_from.Given as goal

abbrev pub invariant-loop-known : goal.invariant-loop-known
invariant-loop-known l = AreKept l.bytes l.at

abbrev pub decreases-loop-known : goal.decreases-loop-known
decreases-loop-known l = length l.bytes - l.at
