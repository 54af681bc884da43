-- The first of the document's definitions lead there.
use Rattle.std.proofs.Common.{◌≡◌, take}
use Rattle.md_base.specs.Tree.{Forest, flatten}
use Rattle.md_meaning.specs.Meaning.At.{Context}
use Rattle.md_printer.specs.Supplies.{Supplies}
use Rattle.md_html.proofs.Owns.{targets_of}
use Rattle.md_html.proofs.definitions.gathered.Given as goal

abbrev pub invariant-loop-entry : goal.invariant-loop-entry
invariant-loop-entry l =
    (at : Context) (document : Forest) → Supplies l.context at →
    flatten document ≡ l.context.checked.now.events →
    l.targets.items ≡ take l.entry-index (targets_of at document)
