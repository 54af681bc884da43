-- A footnote whose identifier has a place changes nothing, a new one comes last: both as `noted`
-- says. By itself the search can't go from places in a map to the list of footnotes.
use Rattle.std.proofs.Common.{arith}
use Rattle.std.proofs.lemmas.Result.{on_ok_weaker}
use Rattle.md_footnotes.proofs.Placing.{noted-present, noted-new}
use Rattle.md_footnotes.proofs.notes.Notes.note.Goals as goal

pub returns-in-Some : goal.returns-in-Some
returns-in-Some c = grind (arith, noted-present)

pub returns-in-None : goal.returns-in-None
returns-in-None c = grind (arith, on_ok_weaker, noted-new)
