-- The tape's entries stay; the leaf has one more line.
use Rattle.std.proofs.Common.{ap, ◌∙◌, ◌≡◌, ◌≤◌, ◌<◌, refl, map, drop, length, subst}
use Rattle.std.proofs.Common.{arith, true}
use Rattle.std.proofs.lemmas.List.{length-map, length-drop}
use Rattle.md_blocks.specs.Passes.{leaf_of, leaf_lines, state_of}
use Rattle.md_blocks.specs.States.{with_leaf}
use Rattle.md_blocks.specs.Tapes.{are_whole, has_info, line_of}
use Rattle.md_blocks.proofs.LinkLemmas.{whole_pushed}
use Rattle.md_blocks.proofs.StateLemmas.{alike, leaf_with, pushed}
use Rattle.md_blocks.proofs.pass.Pass.push_line.Goals as goal

pub invariant_of-self : goal.invariant_of-self
invariant_of-self c =
    let p = c.args.self.now in
    let pushed = c.push_line.ensures in
    let leaves = p.nesting.leaves in
    record {
      short = p.short;
      info = λ is. omega (arith, p.info is, pushed.start, pushed.grows);
      whole = λ is. ap (λ n. are_whole (drop n c.push_line.new.self.leaves.lines.items)) pushed.start
          ∙ whole_pushed c.push_line.result leaves.lines.items c.push_line.new.self.leaves.lines.items
          c.args.line leaves.start pushed.lines pushed.unchanged
          (subst (λ n. leaves.start ≤ n) leaves.lines.ok.0 leaves.begun) (p.whole is)
          (c.requires.whole is);
    }

pub returns-clause-state : goal.returns-clause-state
returns-clause-state c =
    let p = c.args.self.now in
    let bytes = p.bytes.now in
    let leaves = p.nesting.leaves in
    let later = c.push_line.new.self.leaves.lines.items in
    let line = line_of bytes c.args.line in
    let within : leaves.start ≤ length leaves.lines.items =
    subst (λ n. leaves.start ≤ n) leaves.lines.ok.0 leaves.begun in
    let some : has_info p.leaf ≡ true → 0 < length (leaf_lines p) = λ is.
    let count = length-map (drop leaves.start leaves.lines.items) (line_of bytes) in
    omega (arith, count, length-drop leaves.start leaves.lines.items, leaves.lines.ok, p.info is) in
    let lines = ap (λ start. map (line_of bytes) (drop start later)) c.push_line.ensures.start
    ∙ pushed bytes leaves.lines.items later c.args.line leaves.start
    c.in_ok-push_line.ensures.lines within in
    alike _ _ (c.in_ok-push_line.ensures.entries bytes)
    (ap (λ stack. stack.items) c.push_line.ensures.stack)
    (ap (leaf_of p.leaf) lines) refl refl
    ∙ ap (λ leaf. with_leaf leaf (state_of p)) (leaf_with p.leaf (leaf_lines p) line some)
