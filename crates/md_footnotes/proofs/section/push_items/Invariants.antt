-- In each iteration, appending the remaining footnotes gives the same as appending all of them to
-- the text at the start. The loop ends, since fewer remain each time.
use Rattle.std.proofs.Common.{◌≡◌, ◌-◌, ◌≤◌, length, drop, string_bytes}
use Rattle.std.specs.List.{flat_map}
use Rattle.md_meaning.specs.Meaning.Layout.{laid_after}
use Rattle.md_meaning.specs.Meaning.Footnotes as meaning
use Rattle.md_footnotes.specs.Seen.{context_by}
use Rattle.md_footnotes.proofs.section.push_items.Given as goal

abbrev pub invariant-loop-called : goal.invariant-loop-called
invariant-loop-called l =
    (laid_after l.settings.ending.now (string_bytes l.out)
    (flat_map (meaning.item (context_by l.settings.options.now l.calls) l.notes)
    (drop l.index (meaning.distinct l.calls)))
    ≡ laid_after l.settings.ending.now (string_bytes l.fn.out)
    (flat_map (meaning.item (context_by l.settings.options.now l.calls) l.notes)
    (meaning.distinct l.calls))) × (l.index ≤ length (meaning.distinct l.calls))

abbrev pub decreases-loop-called : goal.decreases-loop-called
decreases-loop-called l = length (meaning.distinct l.calls) - l.index
