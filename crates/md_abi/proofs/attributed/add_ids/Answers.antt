-- Without ids the text is as it was given.
use Rattle.std.proofs.Common.{option_copied, string_bytes, map, sym, ap, ◌∙◌, subst}
use Rattle.md_safe.specs.Tokenizer.{IsTokenized}
use Rattle.md_page.specs.Added.{with_heading_ids}
use Rattle.md_page.specs.Headings.{listed}
use Rattle.md_page.specs.Pieces.{IsWritten}
use Rattle.md_abi.specs.Attributes.{listing}
use Rattle.md_page.specs.Built.{IsBuiltAsWritten}
use Rattle.md_abi.proofs.AttributedLemmas.{none-result, some-result, built-before}
use Rattle.md_abi.proofs.attributed.add_ids.Goals as goal

pub returns-in-None-clause-listed : goal.returns-in-None-clause-listed
returns-in-None-clause-listed g c =
    none-result (λ made. string_bytes made.whole) (λ made. made.start) (option_copied c.args.prefix)
    c.as_str-in-None.result.now (g.H.Html.text c.args.html.now) (ap option_copied c.in-None.is)
    c.as_str-in-None.ensures.text c.as_str-in-None.ensures.written c.with_list-in-None.result
    c.with_list-in-None.ensures.whole c.with_list-in-None.ensures.start

pub returns-in-None-clause-tree : goal.returns-in-None-clause-tree
returns-in-None-clause-tree g c =
    built-before (λ made. string_bytes made.whole) (λ made. made.start)
    (g.H.Html.text c.args.html.now) c.as_str-in-None.result.now _ c.with_list-in-None.result
    c.with_list-in-None.ensures.whole c.with_list-in-None.ensures.start
    (subst (λ t. IsBuiltAsWritten (g.H.Html.text c.args.html.now) → IsBuiltAsWritten t)
    (sym c.as_str-in-None.ensures.text) (λ h. h))

pub returns-in_ok-after-in-Some-clause-listed : goal.returns-in_ok-after-in-Some-clause-listed
returns-in_ok-after-in-Some-clause-listed g c =
    let made = c.in_ok-after-in-Some.ensures in
    some-result (λ made. string_bytes made.whole) (λ made. made.start)
    (option_copied c.args.prefix) c.in-Some.prefix.now c.as_str.result.now
    (g.H.Html.text c.args.html.now) _ (ap option_copied c.in-Some.is)
    (λ x h. subst (λ t. IsTokenized t (with_heading_ids c.in-Some.prefix.now x))
    (sym c.as_str.ensures.text) (made.tokens x h))
    (λ x h. ap listing (ap (map listed) c.as_slice.ensures.value ∙ made.headings x h))
    (λ x h. made.distinct x h)
    (subst IsWritten (sym c.as_str.ensures.text) c.as_str.ensures.written)
    c.with_list.result c.with_list.ensures.whole c.with_list.ensures.start

pub returns-in_ok-after-in-Some-clause-tree : goal.returns-in_ok-after-in-Some-clause-tree
returns-in_ok-after-in-Some-clause-tree g c =
    built-before (λ made. string_bytes made.whole) (λ made. made.start)
    (g.H.Html.text c.args.html.now) c.as_str.result.now
    _ c.with_list.result
    c.with_list.ensures.whole c.with_list.ensures.start
    (subst (λ t. IsBuiltAsWritten (g.H.Html.text c.args.html.now) → IsBuiltAsWritten t)
    (sym c.as_str.ensures.text) c.in_ok-after-in-Some.ensures.tree)
