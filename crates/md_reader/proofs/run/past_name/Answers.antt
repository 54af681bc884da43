-- The `&` and the rest of the reference.
use Rattle.std.proofs.Common.{◌∷◌, refl}
use Rattle.md_reader.proofs.Runs.{before-reference}
use Rattle.md_reader.proofs.run.past_name.Goals as goal

pub returns-clause-is : goal.returns-clause-is
returns-clause-is c = before-reference (38 ∷ c.args.text.now) c.args.text.now
    c.in_ok-rest.field-0-0 c.in_ok-rest.rest.now refl c.in_ok-rest.ensures.is
