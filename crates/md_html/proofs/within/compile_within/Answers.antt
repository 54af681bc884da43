-- The events that are measured are those of the arguments.
use Rattle.md_html.proofs.within.compile_within.Goals as goal

pub returns-clause-within : goal.returns-clause-within
returns-clause-within c = rw c.new-measured.ensures at c.compile_measured.ensures.text

pub returns-clause-refused : goal.returns-clause-refused
returns-clause-refused c = rw c.new-measured.ensures at c.compile_measured.ensures.refused
