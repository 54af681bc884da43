-- The lines before the last one are a paragraph; the last one stays open.
use Rattle.std.proofs.Common.{ap, sym, ◌∙◌, ◌≡◌, ◌<◌, ◌+◌, ◌-◌, ◌∷◌, [], map, drop, length, arith}
use Rattle.std.proofs.Common.{refl}
use Rattle.std.specs.Prelude.{if◌then◌else◌, take}
use Rattle.std.proofs.lemmas.Bool.{false≢true, lt-ltb}
use Rattle.std.proofs.lemmas.List.{length-drop, length-map}
use Rattle.md_blocks.specs.Entries.{last_line}
use Rattle.md_blocks.specs.LinkDefinitions.{defined_lines}
use Rattle.md_blocks.specs.Passes.{leaf_lines, state_of}
use Rattle.md_blocks.specs.States.{InParagraph, NoLeaf, paragraph_closed, with_leaf}
use Rattle.md_blocks.specs.Tapes.{are_whole, entries_of, is_paragraph, line_of}
use Rattle.md_blocks.proofs.LinkLemmas.{whole_before, whole_later}
use Rattle.md_blocks.proofs.StateLemmas.{alike, before_last, last_alone}
use Rattle.md_blocks.proofs.pass.Pass.split_paragraph.Goals as goal

pub returns-in_ok-close_paragraph-clause-lines : goal.returns-in_ok-close_paragraph-clause-lines
returns-in_ok-close_paragraph-clause-lines c =
    let p = c.args.self.now in
    let q = c.close_paragraph.new.self in
    let b = c.begin_leaf_at.new.self in
    let kept = p.nesting.leaves.lines in
    let start = p.nesting.leaves.start in
    let last = c.len-last.result - 1 in
    let before : start < last = c.if-self-last.true in
    let count : length kept.items ≡ last + 1 = omega (arith, c.len-last.ensures, kept.ok, before) in
    ap (λ n. map (line_of q.bytes.now) (drop n b.leaves.lines.items)) c.begin_leaf_at.ensures.start
    ∙ ap (λ those. map (line_of q.bytes.now) (drop last those.items))
    (c.begin_leaf_at.ensures.lines ∙ c.close_paragraph.ensures.lines)
    ∙ ap (λ bytes. map (line_of bytes.now) (drop last kept.items)) c.close_paragraph.ensures.document
    ∙ last_alone p.bytes.now kept.items start last (omega (arith, before)) count

pub returns-in_ok-close_paragraph-clause-state : goal.returns-in_ok-close_paragraph-clause-state
returns-in_ok-close_paragraph-clause-state c =
    let p = c.args.self.now in
    let q = c.close_paragraph.new.self in
    let b = c.begin_leaf_at.new.self in
    let kept = p.nesting.leaves.lines in
    let start = p.nesting.leaves.start in
    let last = c.len-last.result - 1 in
    let lines = leaf_lines p in
    let state = state_of p in
    let alone = InParagraph (last_line lines ∷ []) in
    let before : start < last = c.if-self-last.true in
    let count : length kept.items ≡ last + 1 = omega (arith, c.len-last.ensures, kept.ok, before) in
    let some : 1 < length lines = omega (
      arith,
      before,
      count,
      length-map (drop start kept.items) (line_of p.bytes.now),
      length-drop start kept.items,
    ) in
    let one_left = ap (λ n. map (line_of q.bytes.now) (drop n b.leaves.lines.items)) c.begin_leaf_at.ensures.start
    ∙ ap (λ those. map (line_of q.bytes.now) (drop last those.items))
    (c.begin_leaf_at.ensures.lines ∙ c.close_paragraph.ensures.lines)
    ∙ ap (λ bytes. map (line_of bytes.now) (drop last kept.items)) c.close_paragraph.ensures.document
    ∙ last_alone p.bytes.now kept.items start last (omega (arith, before)) count in
    let whole = whole_before p.nesting.leaves.start last kept.items (omega (arith, before))
    (p.whole (ap is_paragraph c.requires.is_paragraph)) in
    let those = map (line_of p.bytes.now) (drop start (take last kept.items)) in
    alike _ _
    (ap (λ those. entries_of q.bytes.now those.items b.tape.items) c.begin_leaf_at.ensures.lines
    ∙ ap (λ tape. entries_of q.bytes.now q.nesting.leaves.lines.items tape.items) c.begin_leaf_at.ensures.tape)
    (ap (λ stack. stack.items) c.begin_leaf_at.ensures.stack)
    (ap InParagraph one_left) refl refl
    ∙ ap (with_leaf alone) c.in_ok-close_paragraph.ensures.state
    ∙ ap (λ n. with_leaf alone (paragraph_closed n those (with_leaf NoLeaf state)))
    (c.in_ok-close_paragraph.ensures.whole whole)
    ∙ ap (λ those. with_leaf alone (paragraph_closed (defined_lines those) those (with_leaf NoLeaf state)))
    (before_last p.bytes.now kept.items start last (omega (arith, before)) count)
    ∙ ap (λ is. with_leaf alone (if is
    then paragraph_closed (defined_lines (take (length lines - 1) lines)) (take (length lines - 1) lines)
    (with_leaf NoLeaf state) else state)) (sym (lt-ltb 1 (length lines) some))

pub invariant_of-self-then-self-last : goal.invariant_of-self-then-self-last
invariant_of-self-then-self-last c =
    let p = c.args.self.now in
    let q = c.close_paragraph.new.self in
    let kept = p.nesting.leaves.lines in
    let later = c.begin_leaf_at.new.self.leaves in
    let last = c.len-last.result - 1 in
    let before : p.nesting.leaves.start < last = c.if-self-last.true in
    record {
      short = q.short;
      info = λ is. absurd (false≢true is);
      whole = λ _. ap (λ n. are_whole (drop n later.lines.items)) c.begin_leaf_at.ensures.start
          ∙ ap (λ those. are_whole (drop last those.items))
          (c.begin_leaf_at.ensures.lines ∙ c.close_paragraph.ensures.lines)
          ∙ whole_later p.nesting.leaves.start last kept.items (omega (arith, before))
          (p.whole (ap is_paragraph c.requires.is_paragraph));
    }
