-- Each line after the first fence is in front matter, or is the second fence.
use Rattle.std.proofs.Common.{◌≡◌, ◌∙◌, ◌<◌, arith, ap, sym, drop, length, take, true, Some, None}
use Rattle.std.proofs.Common.{ℕ, false}
use Rattle.std.specs.Prelude.{if◌then◌else◌}
use Rattle.md_blocks.specs.Documents as documents
use Rattle.md_blocks.specs.Documents.{Front, front_closed, is_front_fence, lines_of}
use Rattle.md_blocks.proofs.DocumentLemmas.{front_first, front_so, front_there, has_fence, sliced}
use Rattle.md_blocks.proofs.preamble.front_matter.Goals as goal

pub lines-init : goal.lines-init
lines-init c =
    let bytes = c.args.bytes.now in
    let at = c.start_of-at.result in
    let end = c.line_end-end.result in
    let next = c.after_ending-start.result in
    let inside = c.line_end-end.ensures.within c.start_of-at.ensures.within in
    let is : is_front_fence (drop at (take end bytes)) ≡ true =
    ap is_front_fence (sym (sliced bytes at end c.line_end-end.ensures.after))
    ∙ sym c.is_fence.ensures ∙ c.if-not-is_fence.false in
    let some : at < length bytes =
    has_fence bytes at end c.line_end-end.ensures.after is c.start_of-at.ensures.within in
    record {
      within = c.after_ending-start.ensures.within inside;
      left = sym (ap (λ i. documents.front_opened (take i bytes) (lines_of (drop i bytes)))
          (sym c.start_of-at.ensures.value)
          ∙ front_first bytes at end next some (c.line_end-end.ensures.first c.start_of-at.ensures.within)
          c.after_ending-start.ensures.value c.line_end-end.ensures.after c.after_ending-start.ensures.after
          ∙ ap (λ so. if so then front_closed (take next bytes) (lines_of (drop next bytes)) else None) is);
    }

pub returns-then-is_fence-clause-value : goal.returns-then-is_fence-clause-value
returns-then-is_fence-clause-value c =
    let bytes = c.args.bytes.now in
    let at = c.lines.from in
    let end = c.line_end-end-in-lines.result in
    let next = c.after_ending-next.result in
    let span = c.new-then-is_fence in
    let is : is_front_fence (drop at (take end bytes)) ≡ true =
    ap is_front_fence (sym (sliced bytes at end c.line_end-end-in-lines.ensures.after))
    ∙ sym c.is_fence-in-lines.ensures ∙ c.if-is_fence.true in
    let front : ℕ → ℕ → Front = λ one other. record {
      text = take one bytes;
      rest = lines_of (drop other bytes);
    } in
    let second : span.result.end ≡ next = omega (arith, span.ensures.end, c.after_ending-next.ensures.after) in
    ap (λ i. Some (front i span.result.end)) span.ensures.start
    ∙ ap (λ i. Some (front end i)) second
    ∙ sym (sym c.lines.invariant.left
    ∙ front_there bytes at end next c.lines-test.true
    (c.line_end-end-in-lines.ensures.first c.lines.invariant.within) c.after_ending-next.ensures.value
    c.line_end-end-in-lines.ensures.after c.after_ending-next.ensures.after
    ∙ ap (λ so. front_so so (take end bytes) (take next bytes) (lines_of (drop next bytes))) is)

pub lines-preserved : goal.lines-preserved
lines-preserved c =
    let bytes = c.args.bytes.now in
    let at = c.lines.from in
    let end = c.line_end-end-in-lines.result in
    let next = c.after_ending-next.result in
    let is : is_front_fence (drop at (take end bytes)) ≡ false =
    ap is_front_fence (sym (sliced bytes at end c.line_end-end-in-lines.ensures.after))
    ∙ sym c.is_fence-in-lines.ensures ∙ c.if-is_fence.false in
    record {
      within = c.after_ending-next.ensures.within
          (c.line_end-end-in-lines.ensures.within c.lines.invariant.within);
      left = sym (sym c.lines.invariant.left
          ∙ front_there bytes at end next c.lines-test.true
          (c.line_end-end-in-lines.ensures.first c.lines.invariant.within) c.after_ending-next.ensures.value
          c.line_end-end-in-lines.ensures.after c.after_ending-next.ensures.after
          ∙ ap (λ so. front_so so (take end bytes) (take next bytes) (lines_of (drop next bytes))) is);
    }
