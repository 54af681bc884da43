-- An iteration writes up to a tag's end, and its attribute.
use Rattle.std.proofs.Common.{ℕ, ◌+◌, List, [], ◌∷◌, string_bytes, ◌∙◌}
use Rattle.md_text.specs.Html.{written_attributes}
use Rattle.md_page.specs.Scan.{picks_link, new_rel}
use Rattle.md_page.proofs.Finding.{turned}
use Rattle.md_page.proofs.rel.with_rels.Goals as goal

pub loop-end-preserved : goal.loop-end-preserved
loop-end-preserved c =
    let n = c.loop-end.invariant.0.0 in
    let rest : List ℕ = c.loop-end.rest.now in
    let add = λ (k : ℕ). written_attributes (new_rel c.args.rel.now k ∷ []) in
    let place = rw c.as_bytes.ensures.value at c.in-Some.ensures.place in
    let scan = rw c.as_bytes.ensures.value at c.in-Some.ensures.scan add n in
    let next = turned picks_link add n rest c.in-Some.end (string_bytes c.loop-end.out) place scan
    c.in_ok-push_str.ensures.bytes c.range.ensures.value c.in_ok-push_str-2.ensures.bytes
    (c.as_str.ensures.value ∙ c.in_ok-attribute.ensures) c.range_from-rest.ensures.value
    c.loop-end.invariant.0.1 in
    ((n + 1, next.1), c.range_from-rest.utf8)
