-- Each reference by its name.
use Rattle.md_reader.proofs.Runs.{reference-amp, reference-quot, reference-lt, reference-gt}
use Rattle.md_reader.proofs.run.reference.Goals as goal

pub returns-in-Some-clause-is : goal.returns-in-Some-clause-is
returns-in-Some-clause-is c =
    reference-amp c.args.text.now c.in-Some.rest.now c.in-Some.ensures.is

pub returns-in-Some-past-clause-is : goal.returns-in-Some-past-clause-is
returns-in-Some-past-clause-is c =
    reference-quot c.args.text.now c.in-Some-past.rest.now c.in-Some-past.ensures.is

pub returns-in-Some-past-2-clause-is : goal.returns-in-Some-past-2-clause-is
returns-in-Some-past-2-clause-is c =
    reference-lt c.args.text.now c.in-Some-past-2.rest.now c.in-Some-past-2.ensures.is

pub returns-in-Some-past-3-clause-is : goal.returns-in-Some-past-3-clause-is
returns-in-Some-past-3-clause-is c =
    reference-gt c.args.text.now c.in-Some-past-3.rest.now c.in-Some-past-3.ensures.is
