-- By the one reading of each text.
use Rattle.std.proofs.Common.{◌≡◌, ℕ, true, false, List, [], ◌∷◌, refl, sym, ◌∙◌, subst, codes}
use Rattle.std.proofs.lemmas.Bool.{true≢false}
use Rattle.md_text.specs.Html.{Forest, Empty, Text, Element, IsReading}
use Rattle.md_text.specs.Ids.{are_distinct, ids, HasDistinctIds}
use Rattle.md_text.proofs.HtmlReading.{one_reading}
use Rattle.md_text.proofs.laws.cases.equal_ids_are_told.Goals as goal

-- an element with one attribute
abbrev with : List ℕ → List ℕ → List ℕ → Forest → Forest → Forest
with tag name value inner rest = Element tag (record { name = name; value = value } ∷ []) inner rest

item : List ℕ → Forest → Forest → Forest
item value inner rest = with (codes "li") (codes "id") value inner rest

distinct-by : (text : List ℕ) (forest : Forest) → IsReading text forest →
    are_distinct (ids forest) ≡ true →
    HasDistinctIds text
distinct-by text forest reading are other also =
    subst (λ f. are_distinct (ids f) ≡ true) (one_reading text forest other reading also) are

equal-by : (text : List ℕ) (forest : Forest) → IsReading text forest →
    are_distinct (ids forest) ≡ false →
    HasDistinctIds text → ⊥
equal-by text forest reading equal h = true≢false (sym (h forest reading) ∙ equal)

pub returns-clause-differ : goal.returns-clause-differ
unfolding item
returns-clause-differ c = distinct-by _ (item (codes "a") Empty (item (codes "b") Empty Empty))
    (record { in_grammar = refl; written_so = refl }) refl

pub returns-clause-other_attribute : goal.returns-clause-other_attribute
returns-clause-other_attribute c =
    distinct-by _ (with (codes "a") (codes "title") (codes "a") Empty
    (with (codes "a") (codes "title") (codes "a") Empty Empty))
    (record { in_grammar = refl; written_so = refl }) refl

pub returns-clause-equal : goal.returns-clause-equal
unfolding item
returns-clause-equal c =
    equal-by _ (item (codes "a") Empty (item (codes "b") Empty (item (codes "a") Empty Empty)))
    (record { in_grammar = refl; written_so = refl }) refl

pub returns-clause-nested : goal.returns-clause-nested
unfolding item
returns-clause-nested c =
    equal-by _ (item (codes "a") (with (codes "a") (codes "id") (codes "a") Empty Empty) Empty)
    (record { in_grammar = refl; written_so = refl }) refl

-- a link to a place, with an id after that
link : List ℕ → List ℕ → Forest → Forest
link place value rest = Element (codes "a") (record { name = codes "href"; value = place }
    ∷ record { name = codes "id"; value = value } ∷ []) Empty rest

pub returns-clause-after_others : goal.returns-clause-after_others
unfolding link
returns-clause-after_others c =
    equal-by _ (link (codes "#x") (codes "a") (link (codes "#y") (codes "a") Empty))
    (record { in_grammar = refl; written_so = refl }) refl

pub returns-clause-headings : goal.returns-clause-headings
unfolding item
returns-clause-headings c =
    equal-by _ (with (codes "h2") (codes "id") (codes "a") Empty (item (codes "a") Empty Empty))
    (record { in_grammar = refl; written_so = refl }) refl

pub returns-clause-referenced : goal.returns-clause-referenced
unfolding item
returns-clause-referenced c =
    equal-by _
    (item (codes "&amp;a") Empty (Text (codes "&lt;") (item (codes "&amp;a") Empty Empty)))
    (record { in_grammar = refl; written_so = refl }) refl
