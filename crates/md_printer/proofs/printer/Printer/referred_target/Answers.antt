-- What is looked up is what is found by the identifier.
use Rattle.std.proofs.Common.{ap, ◌∙◌}
use Rattle.std.specs.Prelude.{unwrap_or}
use Rattle.md_printer.proofs.printer.Printer.referred_target.Goals as goal

pub returns : goal.returns
returns c = λ all one supplies there.
    ap (λ t. unwrap_or c.args.self.now.resource t) (c.target_of.ensures
    ∙ supplies.finds c.args.index one c.referred_definition_at.result there
    c.referred_definition_at.ensures.referred)
