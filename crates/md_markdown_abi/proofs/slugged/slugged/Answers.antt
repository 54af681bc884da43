-- What was promised of a text with ids, carried to the bytes before the lists.
use Rattle.std.proofs.Common.{◌≡◌, ◌++◌, List, ℕ, length, map, string_bytes, sym, ap, ◌∙◌, subst}
use Rattle.std.proofs.Common.{append_assoc}
use Rattle.std.proofs.lemmas.List.{length-map}
use Rattle.md_safe.specs.Tokenizer.{IsTokenized}
use Rattle.md_page.specs.Added.{headings_of}
use Rattle.md_page.specs.Built.{IsBuiltAsWritten}
use Rattle.md_page.specs.GivenIds.{with_given_ids}
use Rattle.md_page.specs.Headings.{listed}
use Rattle.md_page.specs.Pieces.{IsWritten}
use Rattle.md_abi.specs.Attributes.{listing}
use Rattle.md_markdown_abi.specs.Slugged.{id_listing}
use Rattle.md_markdown_abi.proofs.SluggedLemmas.{listed-slugs, built-slugs}
use Rattle.md_markdown_abi.proofs.slugged.slugged.Goals as goal

pub returns-clause-slugged : goal.returns-clause-slugged
returns-clause-slugged g c = λ x h.
    (let after = c.in_ok-after.ensures in
    let text : List ℕ = c.as_str.result.now in
    let ids = map string_bytes c.in_ok-after.after.ids.items in
    let same : map listed c.in_ok-after.after.headings.items ≡ headings_of x =
    after.headings x h in
    let lists = ap listing (ap (map listed) c.as_slice.ensures.value ∙ same) in
    listed-slugs text _ _ ids x
    (c.in_ok-push_ids.ensures
    ∙ ap (λ y. y ++ id_listing (map string_bytes c.as_slice-2.result.now))
    (c.in_ok-made.ensures.whole ∙ ap (λ y. text ++ y) lists)
    ∙ ap (λ given. (text ++ listing (headings_of x)) ++ id_listing (map string_bytes given))
    c.as_slice-2.ensures.value
    ∙ append_assoc text (listing (headings_of x)) (id_listing ids))
    c.in_ok-made.ensures.start
    (length-map c.in_ok-after.after.ids.items string_bytes ∙ after.ids
    ∙ sym (length-map c.in_ok-after.after.headings.items listed) ∙ ap length same)
    (subst (λ t. IsTokenized t (with_given_ids ids x)) (sym c.as_str.ensures.text)
    (after.tokens x h))
    after.differ (after.free x h) (λ d. after.distinct x h d)
    (subst IsWritten (sym c.as_str.ensures.text) c.as_str.ensures.written))

pub returns-clause-tree : goal.returns-clause-tree
returns-clause-tree g c = λ built.
    (let text : List ℕ = c.as_str.result.now in
    built-slugs text _ _ _
    (c.in_ok-push_ids.ensures
    ∙ ap (λ y. y ++ id_listing (map string_bytes c.as_slice-2.result.now))
    c.in_ok-made.ensures.whole
    ∙ append_assoc text _ _)
    c.in_ok-made.ensures.start
    (subst IsBuiltAsWritten (sym c.as_str.ensures.text) (c.in_ok-after.ensures.tree built)))
