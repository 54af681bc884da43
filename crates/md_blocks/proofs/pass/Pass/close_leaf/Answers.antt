-- Indented code has no blank lines at its end.
use Rattle.std.proofs.Common.{ℕ, List, ap, sym, ◌∙◌, refl, ◌≡◌, ◌+◌, ◌-◌, ◌∷◌, [], map, drop, take, length, arith}
use Rattle.std.proofs.lemmas.Result.{on_ok_weaker}
use Rattle.std.specs.List.{suffix_len}
use Rattle.std.proofs.Common.{Bool, true, false, nat_lt}
use Rattle.std.specs.Prelude.{Result, Ok, Err, OnOk, if◌then◌else◌}
use Rattle.std.proofs.lemmas.List.{take_all, take_rest}
use Rattle.md_lines.specs.declared.line.Line.{Line as Place}
use Rattle.md_blocks.specs.Marks.{is_blank_text}
use Rattle.md_blocks.specs.BlockStructure.{paragraph_lines}
use Rattle.md_blocks.specs.Entries.{IndentedCode, Line, OnlyDefinitions, Paragraph}
use Rattle.md_blocks.specs.LinkDefinitions.{defined_lines}
use Rattle.md_blocks.specs.States.{leaf_closed, with_entries, with_leaf, NoLeaf, without_blank_end}
use Rattle.md_blocks.specs.States.{State, InParagraph, blank_written, paragraph_closed}
use Rattle.md_blocks.specs.Passes.{defined_in, leaf_of, leaf_lines, state_of}
use Rattle.md_blocks.specs.Tapes.{are_whole, is_paragraph, line_of, text_of_line, lines_of}
use Rattle.md_blocks.proofs.StateLemmas.{trimmed}
use Rattle.md_blocks.proofs.pass.Pass.close_leaf.Goals as goal

pub returns-in-Indented-clause-state : goal.returns-in-Indented-clause-state
returns-in-Indented-clause-state c =
    let p = c.args.self.now in
    let n = c.put-in-Indented.new.self in
    let bytes = p.bytes.now in
    let all = p.nesting.leaves.lines.items in
    let start = p.nesting.leaves.start in
    let range = c.new.result in
    let count = c.without_blank_end.result in
    let start_is : range.start ≡ start = c.new.ensures.start ∙ c.last-lines.ensures.start in
    let end_is : range.end ≡ start + count = omega (arith, c.new.ensures.end, c.last-lines.ensures.start) in
    let lacking : List Place → ℕ = λ those. length those
    - suffix_len (λ line. is_blank_text (text_of_line bytes line)) those in
    let counted : count ≡ length (drop start all)
    - suffix_len (λ line. is_blank_text (text_of_line bytes line)) (drop start all) =
    c.without_blank_end.ensures.value ∙ ap lacking (take_rest c.deref.result.now c.last-lines.result.start)
    ∙ ap (λ those. lacking (drop c.last-lines.result.start those)) c.deref.ensures.value
    ∙ ap (λ i. lacking (drop i all)) c.last-lines.ensures.start in
    let lines : lines_of bytes all range ≡ without_blank_end (leaf_lines p) =
    ap (λ i. map (line_of bytes) (drop i (take range.end all))) start_is
    ∙ trimmed bytes all start count range.end counted end_is in
    on_ok_weaker c.put-in-Indented.result (λ put. put
    ∙ ap (λ those. with_leaf NoLeaf (with_entries (IndentedCode those ∷ []) (state_of p))) lines
    ∙ sym (ap (λ l. leaf_closed (defined_in p) (with_leaf (leaf_of l (leaf_lines p)) (state_of p)))
    c.in-Indented.is)) c.put-in-Indented.ensures.state

both_on_ok : {A E P Q R : Type 0} (r : Result A E) → (P → Q → R) → OnOk r P → OnOk r Q → OnOk r R
both_on_ok (Ok _) f p q = f p q
both_on_ok (Err _) f p q = tt

-- a paragraph is closed alike before and after its leaf is gone
closed_there : (n : ℕ) (lines : List Line) (state : State) →
    paragraph_closed n lines (with_leaf NoLeaf state)
    ≡ leaf_closed n (with_leaf (InParagraph lines) state)
closed_there n lines state = by (nat_lt n (length lines)) where
  by : (has : Bool) →
      (if has then with_entries (Paragraph (drop n lines) ∷ []) (blank_written (with_leaf NoLeaf state))
      else with_entries (OnlyDefinitions ∷ []) (with_leaf NoLeaf state))
      ≡ with_leaf NoLeaf (if has
      then with_entries (Paragraph (drop n lines) ∷ []) (blank_written (with_leaf (InParagraph lines) state))
      else with_entries (OnlyDefinitions ∷ []) (with_leaf (InParagraph lines) state))
  by true = refl
  by false = refl

pub returns-in-Paragraph-clause-state : goal.returns-in-Paragraph-clause-state
returns-in-Paragraph-clause-state c =
    let p = c.args.self.now in
    let bytes = p.bytes.now in
    let all = p.nesting.leaves.lines.items in
    let start = p.nesting.leaves.start in
    let end = c.last-lines.result.end in
    let state = state_of p in
    let every = take_all end all (omega (arith, c.last-lines.ensures.end, p.nesting.leaves.lines.ok)) in
    let lines = ap (λ those. map (line_of bytes) (drop start those)) every in
    let whole : are_whole (drop start (take end all)) ≡ true =
    ap (λ those. are_whole (drop start those)) every ∙ p.whole (ap is_paragraph c.in-Paragraph.is) in
    both_on_ok c.close_paragraph.result (λ closed count. closed
    ∙ ap (λ n. paragraph_closed n (map (line_of bytes) (drop start (take end all))) (with_leaf NoLeaf state))
    (count whole)
    ∙ ap (λ those. paragraph_closed (defined_lines those) those (with_leaf NoLeaf state)) lines
    ∙ closed_there (defined_lines (leaf_lines p)) (leaf_lines p) state
    ∙ sym (ap (λ l. leaf_closed (defined_lines (paragraph_lines (leaf_of l (leaf_lines p))))
    (with_leaf (leaf_of l (leaf_lines p)) state)) c.in-Paragraph.is))
    c.close_paragraph.ensures.state c.close_paragraph.ensures.whole
