-- What stands before the first line feed is the first line; an input with no line feed is one line.
-- By itself the search can't go from bytes to lines.
use Rattle.std.proofs.Common.{sym}
use Rattle.md_script.proofs.LineLemmas.{lines_cut, lines_alone}
use Rattle.md_script.proofs.script.first_line.Goals as goal

pub returns-in-Some-clause-lines : goal.returns-in-Some-clause-lines
returns-in-Some-clause-lines c =
    lines_cut c.args.input.now c.in-Some.line.now c.in-Some.following.now c.in-Some.ensures.found
    c.in-Some.ensures.front c.in-Some.ensures.back

pub returns-in-None-clause-lines : goal.returns-in-None-clause-lines
returns-in-None-clause-lines c = lines_alone c.args.input.now (sym c.in-None.ensures.found)
