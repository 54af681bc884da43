-- The paragraph's remaining lines are the heading.
use Rattle.std.proofs.Common.{ℕ, List, ap, sym, ◌∙◌, ◌≡◌, ◌≤◌, ◌<◌, ◌+◌, ◌-◌, ◌++◌, ◌∷◌, [], ◌&&◌}
use Rattle.std.proofs.Common.{length, drop, take, map, get_or, arith, true, false, nat_lt, Some}
use Rattle.std.proofs.Common.{◌==◌}
use Rattle.std.specs.Prelude.{if◌then◌else◌}
use Rattle.std.proofs.lemmas.Bool.{and_parts, le-ltb, ltb-false, ltb-true}
use Rattle.std.proofs.lemmas.List.{length-drop, length-map, take_all}
use Rattle.std.proofs.lemmas.List.Sums.{prefix_len-le-length}
use Rattle.md_blocks.specs.Entries.{Line, Heading}
use Rattle.md_blocks.specs.LeafBlocks.{if_begun, with_line}
use Rattle.md_blocks.specs.Marks.{run_of}
use Rattle.md_blocks.specs.Passes.{HasWholeLines, defined_in, defined_to, leaf_lines, leaf_of, lines_to, state_of}
use Rattle.md_blocks.specs.BlockStructure.{paragraph_lines}
use Rattle.md_blocks.specs.LinkDefinitions.{defined_lines}
use Rattle.md_blocks.specs.declared.pass.Pass.{Pass}
use Rattle.md_blocks.specs.declared.pass.OpenLeaf.TheVariants as leaf
use Rattle.md_blocks.specs.Positions.{text_at}
use Rattle.md_blocks.specs.States.{State, Leaf, InParagraph, NoLeaf, blank_written, with_entries, with_leaf}
use Rattle.md_blocks.specs.Tapes.{are_whole, is_paragraph, line_of, lines_of, text_between, underlined}
use Rattle.md_blocks.proofs.LineLemmas.{mark_first, part_is}
use Rattle.md_blocks.proofs.StateLemmas.{lines_after, some_remain, underline_is}
use Rattle.md_blocks.proofs.pass.Pass.begin_underlined.Goals as goal

-- how many lines of the open paragraph are definitions
defined_is : (p : Pass) (end : ℕ) → length p.nesting.leaves.lines.items ≤ end → p.leaf ≡ leaf.Paragraph →
    (count : ℕ) → count ≡ defined_to end p →
    (HasWholeLines end p → defined_to end p ≡ defined_lines (lines_to end p)) → count ≡ defined_in p
defined_is p end all is count counted whole =
    let leaves = p.nesting.leaves in
    let every = take_all end leaves.lines.items all in
    counted
    ∙ whole (ap (λ those. are_whole (drop leaves.start those)) every ∙ p.whole (ap is_paragraph is))
    ∙ ap (λ those. defined_lines (map (line_of p.bytes.now) (drop leaves.start those))) every
    ∙ sym (ap (λ l. defined_lines (paragraph_lines (leaf_of l (leaf_lines p)))) is)

abbrev lines_in : Leaf → List Line
lines_in leaf = elim leaf [ InParagraph lines ↦ lines | _ ↦ [] ]

-- the state if so many lines are definitions
abbrev made : ℕ → ℕ → List Line → State → State
made mark defined lines state =
    with_leaf NoLeaf (with_entries (Heading (if mark == 61 then 1 else 2) (drop defined lines) ∷ [])
    (blank_written state))

pub returns-clause-state : goal.returns-clause-state
returns-clause-state c =
    let p = c.args.self.now in
    let t = c.take_definitions.new.self in
    let b = c.put_blank_line.new.self in
    let q = c.push_line.new.self in
    let n = c.put.new.self in
    let place = c.args.position.now in
    let mark = c.args.mark in
    let line = place.line.now in
    let text = text_at place in
    let state = state_of p in
    let lines = leaf_lines p in
    let kept = p.nesting.leaves.lines in
    let all = kept.items in
    let start = p.nesting.leaves.start in
    let from = n.nesting.leaves.start in
    let count = run_of mark text in
    let defined = defined_in p in
    let taken = c.in_ok-take_definitions.ensures in
    let marks = c.in-Some.marks in
    let found = c.in-Some.ensures in
    let range = c.last-lines.result in
    let under = line_of b.bytes.now c.part.result in
    let is_mark = and_parts (nat_lt 0 count) _ (sym found.there) in
    let some : 0 < count = ltb-true 0 count is_mark.0 in
    let within : place.text + count ≤ length line = omega (
      arith,
      place.in_line,
      prefix_len-le-length (λ one. one == mark) text,
      length-drop place.text line,
    ) in
    let end : marks.end ≡ place.text + count = found.end in
    let first : get_or under.text 0 0 ≡ mark =
    ap (λ t. get_or t 0 0) (c.part.ensures.text b.bytes.now
    ∙ ap (λ bytes. text_between marks bytes.now)
    (c.put_blank_line.ensures.document ∙ c.take_definitions.ensures.document)
    ∙ ap (λ i. drop i (take marks.end p.bytes.now)) found.start
    ∙ ap (λ i. drop place.text (take i p.bytes.now)) end
    ∙ part_is p.bytes.now line place.text count c.requires.in_document within)
    ∙ mark_first mark text some in
    let b_leaf = c.put_blank_line.ensures.leaf ∙ c.take_definitions.ensures.leaf ∙ c.requires.is_paragraph in
    let q_leaf = c.push_line.ensures.leaf ∙ b_leaf in
    let from_is : from ≡ t.nesting.leaves.start =
    ap (λ leaves. leaves.start) c.put.ensures.leaves ∙ c.push_line.ensures.start
    ∙ ap (λ leaves. leaves.start) c.put_blank_line.ensures.leaves in
    let forward : start ≤ t.nesting.leaves.start = taken.forward in
    let counted_is : t.nesting.leaves.start - start ≡ defined =
    defined_is p c.len-end.result (omega (arith, c.len-end.ensures, kept.ok)) c.requires.is_paragraph
    _ taken.defined taken.whole in
    let remain : leaf_lines b ≡ drop defined lines =
    ap (λ bytes. map (line_of bytes.now) (drop b.nesting.leaves.start b.nesting.leaves.lines.items))
    (c.put_blank_line.ensures.document ∙ c.take_definitions.ensures.document)
    ∙ ap (λ leaves. map (line_of p.bytes.now) (drop leaves.start leaves.lines.items))
    c.put_blank_line.ensures.leaves
    ∙ ap (λ those. map (line_of p.bytes.now) (drop t.nesting.leaves.start those.items))
    c.take_definitions.ensures.lines
    ∙ lines_after p.bytes.now all start t.nesting.leaves.start forward
    ∙ ap (λ n. drop n lines) counted_is in
    let lines_q : leaf_lines q ≡ leaf_lines b ++ under ∷ [] =
    sym (ap (λ k. lines_in (leaf_of k (leaf_lines q))) q_leaf)
    ∙ ap (λ s. lines_in s.leaf) c.in_ok-push_line.ensures.state
    ∙ ap (λ k. lines_in (with_line under (leaf_of k (leaf_lines b)))) b_leaf in
    let whole : lines_of q.bytes.now q.nesting.leaves.lines.items range ≡ leaf_lines q =
    ap (λ i. map (line_of q.bytes.now) (drop i (take range.end q.nesting.leaves.lines.items)))
    c.last-lines.ensures.start
    ∙ ap (λ those. map (line_of q.bytes.now) (drop q.nesting.leaves.start those))
    (take_all range.end q.nesting.leaves.lines.items
    (omega (arith, c.last-lines.ensures.end, q.nesting.leaves.lines.ok))) in
    let closed : with_leaf NoLeaf (state_of q) ≡ with_leaf NoLeaf (blank_written state) =
    ap (with_leaf NoLeaf) c.in_ok-push_line.ensures.state
    ∙ ap (with_leaf NoLeaf) c.in_ok-put_blank_line.ensures.state
    ∙ ap (λ s. with_leaf NoLeaf (blank_written s)) c.take_definitions.ensures.state in
    let counted : length lines ≡ length all - start =
    length-map (drop start all) (line_of p.bytes.now) ∙ length-drop start all in
    let before : t.nesting.leaves.start < c.len-end.result =
    ltb-true t.nesting.leaves.start c.len-end.result (sym taken.some ∙ c.if-not-branch.false) in
    let remains : nat_lt defined (length lines) ≡ true =
    ap (λ n. nat_lt n (length lines)) (sym counted_is ∙ ap (λ i. i - start) (sym from_is))
    ∙ some_remain start from (length all) (length lines) (omega (arith, forward, from_is)) counted
    (omega (arith, before, from_is, c.len-end.ensures, kept.ok)) in
    ap (λ is. if_begun (is && nat_lt defined (length lines)) (made mark defined lines state)) (sym found.there)
    ∙ ap (λ is. if_begun is (made mark defined lines state)) remains
    ∙ ap Some (sym (c.in_ok-put.ensures.state
    ∙ ap (λ those. with_entries (underlined those ∷ []) (with_leaf NoLeaf (state_of q)))
    (whole ∙ lines_q ∙ ap (λ those. those ++ under ∷ []) remain)
    ∙ ap (λ entry. with_entries (entry ∷ []) (with_leaf NoLeaf (state_of q)))
    (underline_is (drop defined lines) under mark first)
    ∙ ap (with_entries (Heading (if mark == 61 then 1 else 2) (drop defined lines) ∷ [])) closed))

pub returns-then-not-branch-clause-state : goal.returns-then-not-branch-clause-state
returns-then-not-branch-clause-state c =
    let p = c.args.self.now in
    let t = c.take_definitions.new.self in
    let kept = p.nesting.leaves.lines in
    let start = p.nesting.leaves.start in
    let defined = defined_in p in
    let lines = leaf_lines p in
    let x = made c.args.mark defined lines (state_of p) in
    let taken = c.in_ok-take_definitions.ensures in
    let after : c.len-end.result ≤ t.nesting.leaves.start =
    ltb-false t.nesting.leaves.start c.len-end.result (sym taken.some ∙ c.if-not-branch.true) in
    let count : length lines ≡ length kept.items - start =
    length-map (drop start kept.items) (line_of p.bytes.now) ∙ length-drop start kept.items in
    let counted_is : t.nesting.leaves.start - start ≡ defined =
    defined_is p c.len-end.result (omega (arith, c.len-end.ensures, kept.ok)) c.requires.is_paragraph
    _ taken.defined taken.whole in
    let none : nat_lt defined (length lines) ≡ false =
    ap (λ n. nat_lt n (length lines)) (sym counted_is)
    ∙ le-ltb (t.nesting.leaves.start - start) (length lines)
    (omega (arith, after, count, c.len-end.ensures, kept.ok)) in
    ap (λ is. if_begun (is && nat_lt defined (length lines)) x) (sym c.in-Some.ensures.there)
    ∙ ap (λ is. if_begun is x) none

pub returns-in_default-clause-state : goal.returns-in_default-clause-state
returns-in_default-clause-state c =
    let p = c.args.self.now in
    let text = text_at c.args.position.now in
    let lines = leaf_lines p in
    ap (λ is. if_begun (is && nat_lt (defined_in p) (length lines))
    (with_leaf NoLeaf (with_entries (Heading (if c.args.mark == 61 then 1 else 2)
    (drop (defined_in p) lines) ∷ []) (blank_written (state_of p)))))
    (sym c.in_default.ensures.there)
