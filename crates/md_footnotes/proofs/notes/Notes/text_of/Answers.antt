-- The text at an identifier's place is that of the first footnote with it; without a place it is
-- empty. By itself the search can't go from places in a map to the list of footnotes.
use Rattle.std.proofs.Common.{arith}
use Rattle.md_footnotes.proofs.Placing.{text-at}
use Rattle.md_footnotes.proofs.notes.Notes.text_of.Goals as goal

pub returns-in-Some : goal.returns-in-Some
returns-in-Some c = grind (arith, text-at)

pub returns-in-None : goal.returns-in-None
returns-in-None c = grind (arith, text-at)
