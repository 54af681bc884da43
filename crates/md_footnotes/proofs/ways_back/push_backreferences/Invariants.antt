-- In each iteration, the backreferences to the calls so far were appended, and these are no more
-- than exist.
use Rattle.std.proofs.Common.{◌-◌, ◌≡◌, ◌++◌, string_bytes, ◌≤◌}
use Rattle.md_meaning.specs.Meaning.Footnotes as meaning
use Rattle.md_footnotes.proofs.ways_back.push_backreferences.Given as goal

abbrev pub invariant-loop-done : goal.invariant-loop-done
invariant-loop-done l =
    (string_bytes l.out ≡ string_bytes l.fn.out
    ++ meaning.backreferences l.options l.called.identifier.now l.called.number l.done)
    × (l.done ≤ l.called.count)

abbrev pub decreases-loop-done : goal.decreases-loop-done
decreases-loop-done l = l.called.count - l.done
