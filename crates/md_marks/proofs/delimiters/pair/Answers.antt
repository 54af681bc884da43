-- The tokens of both runs are joined.
use Rattle.std.proofs.Common.{arith, ◌<◌, ◌≤◌, ◌+◌, ◌-◌, ◌∙◌, ap, sym, subst}
use Rattle.std.proofs.lemmas.List.{get_or_default}
use Rattle.md_marks.specs.Emphasis.{available}
use Rattle.md_marks.specs.Openers.{no_run}
use Rattle.md_marks.specs.Pairs.{joined}
use Rattle.md_marks.proofs.PairLemmas.{width-opener, joins}
use Rattle.md_marks.proofs.delimiters.pair.Goals as goal

pub returns-clause-tokens : goal.returns-clause-tokens
returns-clause-tokens c =
    let run = c.index.result.now in
    let closer = c.args.closer in
    let w = c.width-width.result in
    let is = c.index.ensures ∙ get_or_default c.args.openers.now.items c.args.height run no_run
    c.requires.within in
    let some : 0 < available run =
    subst (λ run. 0 < available run) (sym is) (c.requires.open c.args.height c.requires.within) in
    let few : w ≤ run.end = omega (arith, c.width-width.ensures, width-opener run closer some) in
    c.join-2.ensures
    ∙ ap (λ t. joined c.marks_of-start.result.1 closer.start ((closer.start + w) - closer.start) t)
    c.join.ensures
    ∙ joins run _ closer w c.marks_of-start.result.0 c.marks_of-start.result.1
    c.args.tokens.now.items is c.width-width.ensures few c.marks_of-start.ensures.start
    c.marks_of-start.ensures.end
