-- The ids of each reading are distinct exactly if the values in the text are.
use Rattle.std.proofs.Common.{◌≡◌, ◌∙◌, ℕ, List, None, [], sym, ap}
use Rattle.md_text.specs.Html.{Forest, IsReading}
use Rattle.md_text.specs.Ids.{are_distinct, ids}
use Rattle.md_reader.specs.ScannedIds.{scanned}
use Rattle.md_reader.proofs.ScannedIds.{distinct-scanned}
use Rattle.md_reader.proofs.distinct.is_safe_html_with_distinct_ids.Goals as goal

alike : (text : List ℕ) (forest : Forest) → IsReading text forest →
    are_distinct (scanned None [] text) ≡ are_distinct (ids forest)
alike text forest reading =
    ap (λ x. are_distinct (scanned None [] x)) (sym reading.written_so)
    ∙ distinct-scanned forest reading.in_grammar

pub returns-clause-distinct : goal.returns-clause-distinct
returns-clause-distinct c = λ yes forest reading.
    sym (alike c.args.text.now forest reading) ∙ sym c.in_ok-are_distinct.ensures ∙ yes

pub returns-clause-exact : goal.returns-clause-exact
returns-clause-exact c = λ forest safe distinct.
    c.in_ok-are_distinct.ensures ∙ alike c.args.text.now forest safe.reading
    ∙ distinct forest safe.reading
