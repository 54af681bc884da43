-- A last byte that is no slash is no part of the directory, and one that is ends it.
use Rattle.std.proofs.Common.{◌∙◌, arith, ap, sym}
use Rattle.std.proofs.lemmas.Bool.Decides.{nat_tests}
use Rattle.md_urls.proofs.Paths.{directory-other, directory-slash}
use Rattle.md_urls.specs.Resolved.{directory}
use Rattle.md_urls.proofs.path.directory.Goals as goal

pub loop-last-preserved : goal.loop-last-preserved
loop-last-preserved c =
    sym (directory-other c.in-Some.before.now c.in-Some.last.now
    (grind (arith, nat_tests, c.if-last-eq47.false)))
    ∙ ap directory (sym c.in-Some.ensures.cases.0) ∙ c.loop-last.invariant

pub returns-then-last-eq47 : goal.returns-then-last-eq47
returns-then-last-eq47 c =
    rw (c.in-Some.ensures.cases.0, c.if-last-eq47.true)
    (rw (c.in-Some.ensures.cases.0, c.if-last-eq47.true, directory-slash) at c.loop-last.invariant)
