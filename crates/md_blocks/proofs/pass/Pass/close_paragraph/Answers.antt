-- The paragraph's remaining lines are written after the blank line before it.
use Rattle.std.proofs.Common.{ap, sym, ◌∙◌, ◌≡◌, ◌≤◌, ◌<◌, ◌-◌, ◌∷◌, [], map, drop, take}
use Rattle.std.proofs.Common.{length, subst, arith, true, nat_lt}
use Rattle.std.specs.Prelude.{if◌then◌else◌}
use Rattle.std.proofs.lemmas.Result.{on_ok_weaker}
use Rattle.std.proofs.lemmas.Bool.{ltb-true}
use Rattle.md_blocks.specs.Entries.{Paragraph, OnlyDefinitions}
use Rattle.md_blocks.specs.States.{blank_written, with_entries, with_leaf}
use Rattle.md_blocks.specs.Passes.{leaf_of, leaf_lines, lines_to, state_of}
use Rattle.md_blocks.specs.Tapes.{line_of, lines_of}
use Rattle.md_blocks.proofs.StateLemmas.{remaining, count_to, some_remain}
use Rattle.md_blocks.proofs.pass.Pass.close_paragraph.Goals as goal

pub returns-then-branch-clause-state : goal.returns-then-branch-clause-state
returns-then-branch-clause-state c =
    let p = c.args.self.now in
    let t = c.take_definitions.new.self in
    let b = c.put_blank_line.new.self in
    let n = c.put.new.self in
    let end = c.args.end in
    let range = c.new-lines.result in
    let kept = p.nesting.leaves.lines in
    let all = kept.items in
    let start = p.nesting.leaves.start in
    let lines = lines_to end p in
    let state = state_of p in
    let from = n.nesting.leaves.start in
    let taken = c.in_ok-take_definitions.ensures in
    let begun : from ≡ t.nesting.leaves.start =
    ap (λ leaves. leaves.start) c.put.ensures.leaves
    ∙ ap (λ leaves. leaves.start) c.put_blank_line.ensures.leaves in
    let forward : start ≤ from = omega (arith, taken.forward, begun) in
    let before : t.nesting.leaves.start < end =
    ltb-true t.nesting.leaves.start end (sym taken.some ∙ c.if-branch.true) in
    let within : end ≤ length all = subst (λ count. end ≤ count) kept.ok.0 c.requires.within in
    let some : nat_lt (from - start) (length lines) ≡ true =
    some_remain start from end (length lines) forward (count_to p.bytes.now all start end within)
    (omega (arith, begun, before)) in
    let is : with_leaf (leaf_of p.leaf (leaf_lines t)) state ≡ state =
    ap (λ l. with_leaf (leaf_of l (leaf_lines t)) state) c.requires.no_leaf
    ∙ sym (ap (λ l. with_leaf (leaf_of l (leaf_lines p)) state) c.requires.no_leaf) in
    let from_is : range.start ≡ from =
    c.new-lines.ensures.start ∙ ap (λ leaves. leaves.start) (sym c.put.ensures.leaves) in
    let end_is : range.end ≡ end =
    omega (arith, c.new-lines.ensures.end, c.new-lines.ensures.start, from_is, begun, before) in
    let remain : lines_of b.bytes.now b.nesting.leaves.lines.items range ≡ drop (from - start) lines =
    ap (λ bytes. lines_of bytes.now b.nesting.leaves.lines.items range)
    (c.put_blank_line.ensures.document ∙ c.take_definitions.ensures.document)
    ∙ ap (λ leaves. lines_of p.bytes.now leaves.lines.items range) c.put_blank_line.ensures.leaves
    ∙ ap (λ those. lines_of p.bytes.now those.items range) c.take_definitions.ensures.lines
    ∙ ap (λ i. map (line_of p.bytes.now) (drop i (take range.end all))) from_is
    ∙ ap (λ i. map (line_of p.bytes.now) (drop from (take i all))) end_is
    ∙ remaining p.bytes.now all start from end forward in
    on_ok_weaker c.put.result (λ put. put
    ∙ ap (with_entries (Paragraph (lines_of b.bytes.now b.nesting.leaves.lines.items range) ∷ []))
    c.in_ok-put_blank_line.ensures.state
    ∙ ap (λ those. with_entries (Paragraph those ∷ []) (blank_written (state_of t))) remain
    ∙ ap (λ s. with_entries (Paragraph (drop (from - start) lines) ∷ []) (blank_written s))
    (c.take_definitions.ensures.state ∙ is)
    ∙ ap (λ has. if has
    then with_entries (Paragraph (drop (from - start) lines) ∷ []) (blank_written state)
    else with_entries (OnlyDefinitions ∷ []) state) (sym some)) c.put.ensures.state

pub returns-then-branch-clause-whole : goal.returns-then-branch-clause-whole
returns-then-branch-clause-whole c =
    let p = c.args.self.now in
    let start = p.nesting.leaves.start in
    on_ok_weaker c.put.result (λ _ whole.
    ap (λ leaves. leaves.start - start) c.put.ensures.leaves
    ∙ ap (λ leaves. leaves.start - start) c.put_blank_line.ensures.leaves
    ∙ c.in_ok-take_definitions.ensures.defined ∙ c.in_ok-take_definitions.ensures.whole whole)
    c.put.ensures.state

pub returns-clause-whole : goal.returns-clause-whole
returns-clause-whole c =
    let p = c.args.self.now in
    let start = p.nesting.leaves.start in
    on_ok_weaker c.put-2.result (λ _ whole.
    ap (λ leaves. leaves.start - start) c.put-2.ensures.leaves
    ∙ c.in_ok-take_definitions.ensures.defined ∙ c.in_ok-take_definitions.ensures.whole whole)
    c.put-2.ensures.state
