-- In each iteration, the lines so far are valid, and events and settings are theirs, as many as
-- there are lines (`Progress`). Less input remains each time.
use Rattle.std.proofs.Common.{length}
use Rattle.md_script.specs.Setting.{texts_of}
use Rattle.md_script.proofs.ScriptLemmas.{Progress}
use Rattle.md_script.proofs.script.read_script.Given as goal

abbrev pub invariant-lines : goal.invariant-lines
invariant-lines l =
    Progress l.fn.input l.events.items (texts_of l.settings.items) l.rest

abbrev pub decreases-lines : goal.decreases-lines
decreases-lines l = length l.rest
