-- The openers from here on don't match, and those below `bottom` don't either.
use Rattle.std.proofs.Common.{arith, ◌≡◌, ◌<◌, ◌-◌, ◌∙◌, ap, sym, suc, false, get_or, length}
use Rattle.std.proofs.Common.{reverse, take}
use Rattle.md_marks.specs.Emphasis.{may_pair}
use Rattle.md_marks.specs.Openers.{no_run}
use Rattle.md_marks.specs.Pairs.{nearest}
use Rattle.md_marks.proofs.PairLemmas.{none-below, passed-last, none-from}
use Rattle.md_marks.proofs.delimiters.opener_height.Goals as goal

pub openers-preserved : goal.openers-preserved
openers-preserved c =
    let closer = c.args.closer.now in
    let openers = c.args.openers.now in
    let h = c.openers.height - 1 in
    let before = c.openers.invariant in
    let back : suc h ≡ c.openers.height = omega (arith, c.openers-test.true) in
    let within : h < length openers = omega (arith, c.openers-test.true, before.within) in
    let no : may_pair (get_or openers h no_run) closer ≡ false =
    sym c.fits.ensures ∙ c.if-fits.false in
    record {
      same = sym (passed-last closer openers h within no)
          ∙ ap (λ n. nearest closer (reverse (take n openers))) back ∙ before.same;
      within = omega (arith, before.within);
      above = omega (arith, c.openers-test.true, before.above);
      none = none-from closer openers h no (λ i le. before.none i (omega (arith, le, back)));
    }

pub returns-clause-found : goal.returns-clause-found
returns-clause-found c =
    let before = c.openers.invariant in
    sym before.same ∙ none-below c.args.closer.now c.args.openers.now c.openers.height before.within
    (λ i lt. c.requires.bottom i (omega (arith, lt, c.openers-test.false)))
