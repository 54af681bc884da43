-- After `Other` a number is read; any other text is looked up only among the names that are as
-- long. By itself the search can't see that no other name can be the text.
use Rattle.std.proofs.Common.{◌∙◌}
use Rattle.md_script.proofs.NameLemmas.{at_length, name_of_other, name_of_listed}
use Rattle.md_script.proofs.name.read_name.Goals as goal

pub returns-in-Some : goal.returns-in-Some
returns-in-Some c = c.numbered_name.ensures ∙ name_of_other c.args.text.now c.in-Some.digits.now
    c.in-Some.ensures.cases.0 c.in-Some.ensures.cases.1

pub returns-in-None : goal.returns-in-None
returns-in-None c =
    c.listed_at_length.ensures ∙ at_length c.names_by_length.result.now c.args.text.now
    c.names_by_length.ensures.count c.names_by_length.ensures.tables
    ∙ name_of_listed c.args.text.now c.in-None.ensures.cases
