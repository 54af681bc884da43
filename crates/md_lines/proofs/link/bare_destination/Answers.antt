-- The text up to its end.
use Rattle.std.proofs.Common.{◌∙◌, sym}
use Rattle.md_lines.specs.Escapes.{in_line}
use Rattle.md_lines.proofs.Parts.{bare_found, bare_none, long_is}
use Rattle.md_lines.proofs.link.bare_destination.Goals as goal

pub returns-clause-found : goal.returns-clause-found
returns-clause-found c =
    let cursor = c.args.cursor.now in
    bare_found cursor.bytes.now cursor.at cursor.end c.in-Some.at _ _ c.in-Some.ensures.after
    c.in-Some.ensures.within c.in-Some.ensures.value c.new.ensures.start c.new.ensures.end

pub returns-in_default-clause-none : goal.returns-in_default-clause-none
returns-in_default-clause-none c =
    let cursor = c.args.cursor.now in
    bare_none cursor.at (in_line cursor) (sym c.bare_end.ensures.value ∙ c.in_default.is)

pub returns-clause-long : goal.returns-clause-long
returns-clause-long c =
    let cursor = c.args.cursor.now in
    long_is cursor.bytes.now cursor.at c.in-Some.at cursor.end _ _ c.in-Some.ensures.after
    cursor.within c.in-Some.ensures.within c.new.ensures.start c.new.ensures.end
