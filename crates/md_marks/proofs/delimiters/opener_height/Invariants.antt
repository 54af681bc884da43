-- The openers from here on don't match.
use Rattle.std.proofs.Common.{◌≡◌, ◌≤◌, ◌<◌, ℕ, false, get_or, length, reverse, take}
use Rattle.md_marks.specs.Emphasis.{may_pair}
use Rattle.md_marks.specs.Openers.{no_run}
use Rattle.md_marks.specs.Pairs.{nearest}
use Rattle.md_marks.proofs.delimiters.opener_height.Given as goal

abbrev pub invariant-openers : goal.invariant-openers
invariant-openers l = record {
  same : nearest l.closer (reverse (take l.height l.openers)) ≡ nearest l.closer (reverse l.openers);
  within : l.height ≤ length l.openers;
  above : l.bottom ≤ l.height;
  none : (i : ℕ) → l.height ≤ i → i < length l.openers
      → may_pair (get_or l.openers i no_run) l.closer ≡ false;
}

abbrev pub decreases-openers : goal.decreases-openers
decreases-openers l = l.height
