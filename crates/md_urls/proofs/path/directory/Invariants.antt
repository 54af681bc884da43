-- What was passed after the last slash is no part of the directory.
use Rattle.std.proofs.Common.{◌≡◌, length}
use Rattle.md_urls.specs.Resolved.{directory}
use Rattle.md_urls.proofs.path.directory.Given as goal

abbrev pub invariant-loop-last : goal.invariant-loop-last
invariant-loop-last l = directory l.front ≡ directory l.path

abbrev pub decreases-loop-last : goal.decreases-loop-last
decreases-loop-last l = length l.front
