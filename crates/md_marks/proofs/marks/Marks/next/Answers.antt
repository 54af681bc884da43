-- What is passed has no mark by the bits of its block, or is plain.
use Rattle.std.proofs.Common.{◌+◌, ◌∙◌, ◌≡◌, ◌<◌, false, true, length, drop, arith, sym, subst, w64}
use Rattle.std.specs.Int.{trailing_zeros}
use Rattle.md_marks.specs.NextMark.{AreMarks, is_mark_at}
use Rattle.md_marks.proofs.MarkBits.{passed-block, passed-plain, passed-to-lowest, is-lowest}
use Rattle.md_marks.proofs.marks.Marks.next.Goals as goal

pub loop-at-preserved-then-bits-eq0 : goal.loop-at-preserved-then-bits-eq0
loop-at-preserved-then-bits-eq0 c =
    let before = c.loop-at.invariant in
    let bytes = c.self.inside.bytes.now in
    let at = c.loop-at.at in
    let bits = c.marks_from-bits.result in
    let are = subst (λ all. AreMarks (drop at all) bits.1 bits.0)
    (before.1 ∙ sym c.self.view_is) c.marks_from-bits.ensures.marks in (
      omega (arith, before.0),
      c.marks_from-bits.ensures.bytes ∙ before.1,
      passed-block bytes c.args.from at bits.1 bits.0 c.min-end.result are c.if-bits-eq0.true
          before.2,
    )

pub returns-then-not-is_plain-clause-none_passed :
    goal.returns-then-not-is_plain-clause-none_passed
returns-then-not-is_plain-clause-none_passed c = λ k le lt within short.
    let before = c.loop-at.invariant in
    let bytes = c.self.inside.bytes.now in
    let at = c.loop-at.at in
    let bits = c.marks_from-bits.result in
    let are = subst (λ all. AreMarks (drop at all) bits.1 bits.0)
    (before.1 ∙ sym c.self.view_is) c.marks_from-bits.ensures.marks in
    let some : 0 < bits.0 = omega (arith, c.if-bits-eq0.false) in
    let few = c.marks_from-bits.ensures.few in
    let inside : k < length bytes = rw c.self.view_is short in
    let all : k < c.min-end.result = omega (arith, c.min-end.ensures, within, inside) in
    subst (λ text. is_mark_at text k ≡ false) c.self.view_is (passed-to-lowest bytes at bits.1 bits.0
    are some few c.args.from c.min-end.result before.2 k le lt all)

pub returns-then-not-is_plain-clause-mark : goal.returns-then-not-is_plain-clause-mark
returns-then-not-is_plain-clause-mark c = λ within short.
    let before = c.loop-at.invariant in
    let bytes = c.self.inside.bytes.now in
    let at = c.loop-at.at in
    let bits = c.marks_from-bits.result in
    let are = subst (λ all. AreMarks (drop at all) bits.1 bits.0)
    (before.1 ∙ sym c.self.view_is) c.marks_from-bits.ensures.marks in
    let some : 0 < bits.0 = omega (arith, c.if-bits-eq0.false) in
    let few = c.marks_from-bits.ensures.few in
    subst (λ text. is_mark_at text (at + trailing_zeros w64 bits.0) ≡ true) c.self.view_is
    (is-lowest bytes at bits.1 bits.0 are some few (sym c.if-not-is_plain.ensures))

pub loop-at-preserved : goal.loop-at-preserved
loop-at-preserved c =
    let before = c.loop-at.invariant in
    let bytes = c.self.inside.bytes.now in
    let at = c.loop-at.at in
    let bits = c.marks_from-bits.result in
    let are = subst (λ all. AreMarks (drop at all) bits.1 bits.0)
    (before.1 ∙ sym c.self.view_is) c.marks_from-bits.ensures.marks in
    let some : 0 < bits.0 = omega (arith, c.if-bits-eq0.false) in
    let few = c.marks_from-bits.ensures.few in (
      omega (arith, before.0),
      c.marks_from-bits.ensures.bytes ∙ before.1,
      passed-plain bytes c.args.from (at + trailing_zeros w64 bits.0) c.min-end.result
          (sym c.if-not-is_plain.ensures) (passed-to-lowest bytes at bits.1 bits.0 are some few
          c.args.from c.min-end.result before.2),
    )
