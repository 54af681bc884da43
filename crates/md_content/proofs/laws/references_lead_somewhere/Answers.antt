-- What is mentioned is resolved, and both read the same labels.
use Rattle.md_content.proofs.Resolved.{leads-somewhere}
use Rattle.md_meaning.specs.Meaning.At.{Defined, Footnote}
use Rattle.md_content.proofs.Alike.{leads-alike, find-first}
use Rattle.md_content.proofs.Listed.{listed}
use Rattle.md_content.proofs.laws.references_lead_somewhere.Goals as goal

pub returns : goal.returns
returns c = record {
  found = leads-somewhere;
  alike = leads-alike;
  first = find-first (λ (d : Defined). d.identifier);
  first_footnote = find-first (λ (f : Footnote). f.identifier);
  definitions = λ context around before forest. (listed context around before forest).0;
  footnotes = λ context around before forest. (listed context around before forest).1;
}
