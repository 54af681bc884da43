-- The first line ending of the document is that of the event that was found.
use Rattle.std.proofs.Common.{[], ◌∙◌, ap, sym, arith}
use Rattle.std.specs.Prelude.{unwrap_or}
use Rattle.md_tree.specs.Grammar.{IsReadAs}
use Rattle.md_meaning.specs.Meaning.{ending_at}
use Rattle.md_html.proofs.FirstEndings.{ending-none, ending-some}
use Rattle.md_html.proofs.ending.ending_of.Goals as goal

pub text-requires : goal.text-requires
text-requires c =
    let read = c.first_ending.ensures.grammatical in
    (ending-some read.0 c.args.checked.now.events (IsReadAs.flattened read.1) c.in-Some.index
    (sym c.first_ending.ensures.index ∙ c.in-Some.is)).exits

pub returns-in-Some-clause-ending : goal.returns-in-Some-clause-ending
returns-in-Some-clause-ending c = λ document flat.
    let found = ending-some document c.args.checked.now.events flat c.in-Some.index
    (sym c.first_ending.ensures.index ∙ c.in-Some.is) in
    let text = c.text.ensures document found.position flat found.there in
    sym (ap (λ place. ending_at c.args.options.now c.args.checked.now.bytes place) found.is
    ∙ ap (λ t. unwrap_or t []) text)

pub returns-in-None-clause-ending : goal.returns-in-None-clause-ending
returns-in-None-clause-ending c = grind (arith, ending-none)
