-- An iteration adds the heading that it finds.
use Rattle.std.proofs.Common.{◌+◌, ◌++◌, [], ◌∷◌, length, map, vec_len, append-nil, sym}
use Rattle.std.proofs.Common.{ap, ◌∙◌, arith}
use Rattle.std.proofs.lemmas.List.{map-append, length-drop}
use Rattle.std.proofs.lemmas.Str.{IsCharBoundary-after_ascii}
use Rattle.md_page.specs.Headings.{listed}
use Rattle.md_page.specs.Scan.{picks_heading, IsTagAt}
use Rattle.md_page.proofs.HeadingTurns.{heading-turn, headings-all}
use Rattle.md_page.proofs.headings.headings.Goals as goal

pub range_from-tag-requires : goal.range_from-tag-requires
range_from-tag-requires c =
    let found : IsTagAt picks_heading c.loop-at.rest.now c.in-Some.at =
    rw c.as_bytes.ensures.value at c.in-Some.ensures in
    λ later. IsCharBoundary-after_ascii c.loop-at.rest.now c.in-Some.at c.loop-at.invariant.2
    found.within (omega (arith, found.angle))

pub loop-at-preserved : goal.loop-at-preserved
loop-at-preserved c =
    let rest = c.loop-at.rest.now in
    let at = c.in-Some.at in
    let found : IsTagAt picks_heading rest at = rw c.as_bytes.ensures.value at c.in-Some.ensures in
    let tag_is = c.range_from-tag.ensures.value in
    let before = map listed c.loop-at.found.items in
    let more = ap (map listed) c.in_ok-push.ensures.items
    ∙ map-append listed c.loop-at.found.items (c.in_ok-heading.heading ∷ [])
    ∙ ap (λ h. before ++ (h ∷ [])) c.in_ok-heading.ensures in (
      omega (
        arith,
        found.within,
        ap length tag_is,
        length-drop (at + 1) rest,
        c.loop-at.invariant.0,
        c.in_ok-push.ensures.len,
      ),
      heading-turn (vec_len c.loop-at.found) at before rest found c.in_ok-push.ensures.len
          (ap (λ k. k + 1) c.len.ensures) tag_is more c.loop-at.invariant.1,
      c.range_from-tag.utf8,
    )

pub returns : goal.returns
returns c =
    rw (← c.loop-at.invariant.1)
    (rw (headings-all (vec_len c.loop-at.found) c.loop-at.rest.now
    (rw c.as_bytes.ensures.value at c.in_default.ensures))
    (sym (append-nil (map listed c.loop-at.found.items))))
