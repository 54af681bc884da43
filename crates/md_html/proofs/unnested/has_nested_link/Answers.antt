-- Nothing is still to come. The search alone does no induction over the document.
use Rattle.std.proofs.Common.{arith}
use Rattle.std.proofs.lemmas.List.{nil_from_length}
use Rattle.md_measure.proofs.Nesting.{summary_of_document}
use Rattle.md_html.proofs.unnested.has_nested_link.Goals as goal

pub returns : goal.returns
returns c = grind (arith, nil_from_length, summary_of_document)
