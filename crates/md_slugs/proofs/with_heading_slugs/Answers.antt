-- The ids of the text and those that are chosen are distinct, as a tokenizer sees them.
use Rattle.std.proofs.Common.{◌≡◌, ◌++◌, true, length, map, string_bytes, sym, ap, ◌∙◌, subst}
use Rattle.std.proofs.lemmas.List.{length-map}
use Rattle.md_text.specs.Encode.{encoded}
use Rattle.md_text.specs.Ids.{are_distinct}
use Rattle.md_page.specs.Added.{headings_of}
use Rattle.md_page.specs.GivenIds.{with_given_ids, ids_given}
use Rattle.md_page.specs.Headings.{listed}
use Rattle.md_page.specs.Ids.{ids_among}
use Rattle.md_slugs.specs.Chosen.{AreChosen}
use Rattle.md_slugs.proofs.Choosing.{distinct-all, given-all}
use Rattle.md_slugs.proofs.with_heading_slugs.Goals as goal

pub returns-clause-distinct : goal.returns-clause-distinct
returns-clause-distinct g c = λ x h distinct.
    (let headings = c.in_ok-headings.headings.items in
    let taken = map string_bytes c.in_ok-taken.taken.items in
    let ids = map string_bytes c.in_ok-ids.ids.items in
    let count : length ids ≡ length (headings_of x) =
    length-map c.in_ok-ids.ids.items string_bytes ∙ c.in_ok-ids.ensures.count
    ∙ ap length c.as_slice.ensures.value
    ∙ sym (length-map headings listed) ∙ ap length (c.in_ok-headings.ensures.headings x h) in
    let chosen : AreChosen taken ids =
    subst (λ others. AreChosen (map string_bytes others) ids) c.as_slice-2.ensures.value
    c.in_ok-ids.ensures.chosen in
    let all : are_distinct (ids_among x ++ ids_given ids x) ≡ true =
    ap (λ given. are_distinct (ids_among x ++ given)) (given-all ids x count)
    ∙ distinct-all taken ids (ids_among x) distinct
    (λ id k. c.in_ok-taken.ensures.ids x h id k) chosen in
    subst (λ given. are_distinct (ids_among x ++ ids_given (map string_bytes given) x) ≡ true →
    are_distinct (ids_among (with_given_ids (map string_bytes given) x)) ≡ true)
    c.as_slice-3.ensures.value (λ d. c.in_ok-html.ensures.distinct x h d) all)

pub returns-clause-differ : goal.returns-clause-differ
returns-clause-differ g c = c.in_ok-ids.ensures.chosen.0

pub returns-clause-free : goal.returns-clause-free
returns-clause-free g c = λ x h id given.
    (subst (λ others. AreChosen (map string_bytes others)
    (map string_bytes c.in_ok-ids.ids.items)) c.as_slice-2.ensures.value
    c.in_ok-ids.ensures.chosen).1 (encoded true id) (c.in_ok-taken.ensures.ids x h id given)
