-- An iteration writes up to a tag's end, and its attribute.
use Rattle.std.proofs.Common.{ℕ, List, [], ◌∷◌, string_bytes, ◌∙◌, arith}
use Rattle.md_text.specs.Html.{written_attributes}
use Rattle.md_page.specs.Scan.{picks_heading, new_id}
use Rattle.md_page.proofs.Finding.{turned}
use Rattle.md_page.proofs.HeadingRule.{id-written}
use Rattle.md_page.proofs.ids.with_ids.Goals as goal

pub loop-end-preserved : goal.loop-end-preserved
loop-end-preserved c =
    let n = c.loop-end.number in
    let rest : List ℕ = c.loop-end.rest.now in
    let prefix = c.args.prefix.now in
    let add = λ (k : ℕ). written_attributes (new_id prefix k ∷ []) in
    let place = rw c.as_bytes.ensures.value at c.in-Some.ensures.place in
    let scan = rw c.as_bytes.ensures.value at c.in-Some.ensures.scan add n in
    let next = turned picks_heading add n rest c.in-Some.end (string_bytes c.loop-end.out) place
    scan c.in_ok-push_str.ensures.bytes c.range.ensures.value c.in_ok-push_heading_id.ensures
    (id-written prefix c.as_str.result.now n (c.as_str.ensures.value ∙ c.in_ok-start.ensures))
    c.range_from-rest.ensures.value c.loop-end.invariant.1 in
    (omega (arith, c.loop-end.invariant.0, next.0), next.1, c.range_from-rest.utf8)
