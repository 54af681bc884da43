-- The nodes are the whole text, or there is no such level.
use Rattle.std.proofs.Common.{◌==◌, [], length, inl, refl, sym, ap, subst, ◌∙◌, eqb-true}
use Rattle.md_safe.specs.Contents.{Flow}
use Rattle.md_reader.specs.Levels.{IsLevel}
use Rattle.md_reader.specs.Safe.{max_depth}
use Rattle.md_reader.specs.Tests.{test_of}
use Rattle.md_reader.proofs.SafeLemmas.{none-left}
use Rattle.md_reader.proofs.safe.is_read.Goals as goal

pub returns-in-Some-clause-level : goal.returns-in-Some-clause-level
returns-in-Some-clause-level c = λ h. subst
    (λ rest. IsLevel (test_of c.args.rules.now) Flow max_depth c.args.text.now rest)
    (none-left c.in-Some.rest.now (eqb-true (length c.in-Some.rest.now) 0
    (sym c.is_empty.ensures ∙ h))) c.in-Some.ensures.is

pub returns-in-Some-clause-exact : goal.returns-in-Some-clause-exact
returns-in-Some-clause-exact c = λ level. c.is_empty.ensures
    ∙ ap (λ x. length x == 0) (c.in-Some.ensures.only [] (inl refl) level)

pub returns-in-None-clause-exact : goal.returns-in-None-clause-exact
returns-in-None-clause-exact c = λ level. absurd (c.in-None.ensures.only [] (inl refl) level)
