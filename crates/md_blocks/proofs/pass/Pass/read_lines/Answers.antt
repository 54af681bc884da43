-- Each iteration reads the next line of the document.
use Rattle.std.proofs.Common.{◌≡◌, ◌∙◌, ◌-◌, ◌≤◌, arith, ap, sym, refl, length, drop, take, nat_lt}
use Rattle.std.proofs.lemmas.Bool.{false≢true}
use Rattle.std.proofs.lemmas.List.{drop_all, length-take-le}
use Rattle.md_blocks.specs.BlockStructure.{line_read}
use Rattle.md_blocks.specs.Documents.{lines_of, lines_read}
use Rattle.md_blocks.specs.Passes.{state_of}
use Rattle.md_blocks.specs.Positions.{rest_of}
use Rattle.md_blocks.specs.Rests.{rest_at}
use Rattle.md_blocks.proofs.DocumentLemmas.{ending_long, line_there}
use Rattle.md_blocks.proofs.pass.Pass.read_lines.Goals as goal

pub lines-init : goal.lines-init
lines-init c = record {
  document = refl;
  options = refl;
  bytes = refl;
  within = c.requires.within;
  skips = λ is. absurd (false≢true (sym c.requires.first ∙ is));
  left = refl;
}

pub lines-preserved : goal.lines-preserved
lines-preserved c =
    let p = c.args.self.now in
    let q = c.lines.self in
    let new = c.read_line.new.self in
    let inv = c.lines.invariant in
    let place = c.new.result in
    let bytes = p.bytes.now in
    let options = p.options.now in
    let at = c.lines.at in
    let end = c.line_end-end.result in
    let next = c.after_ending-next.result in
    let found = c.in_ok-read_line.ensures.state inv.skips in
    let inside : end ≤ length bytes = c.line_end-end.ensures.within inv.within in
    let count : place.ending ≡ next - end =
    omega (arith, c.new.ensures.ending, c.after_ending-next.ensures.short, c.after_ending-next.ensures.after) in
    let long : length place.line.now ≡ end =
    ap length c.new.ensures.line ∙ length-take-le end bytes inside in
    let rest : rest_of place ≡ rest_at 0 (drop at (take end bytes)) =
    c.new.ensures.rest in
    let read = found
    ∙ ap (λ o. line_read o.now (nat_lt 0 place.ending) (rest_of place)
    (take place.ending (drop (length place.line.now) q.bytes.now)) (state_of q)) inv.options
    ∙ ap (λ b. line_read options (nat_lt 0 place.ending) (rest_of place)
    (take place.ending (drop (length place.line.now) b)) (state_of q)) inv.bytes
    ∙ ap (λ n. line_read options (nat_lt 0 place.ending) (rest_of place)
    (take place.ending (drop n bytes)) (state_of q)) long
    ∙ ap (λ r. line_read options (nat_lt 0 place.ending) r
    (take place.ending (drop end bytes)) (state_of q)) rest
    ∙ ap (λ n. line_read options (nat_lt 0 n) (rest_at 0 (drop at (take end bytes)))
    (take n (drop end bytes)) (state_of q)) count in
    record {
      document = c.read_line.ensures.document ∙ inv.document;
      options = c.read_line.ensures.options ∙ inv.options;
      bytes = ap (λ b. b.now) c.read_line.ensures.document ∙ inv.bytes;
      within = c.after_ending-next.ensures.within inside;
      skips = c.in_ok-read_line.ensures.skips inv.skips;
      left = ap (lines_read options (lines_of (drop next bytes)))
          (read ∙ ap (λ n. line_read options (nat_lt 0 n)
          (rest_at 0 (drop at (take end bytes))) (take (next - end) (drop end bytes)) (state_of q))
          (ending_long bytes end next inside (c.after_ending-next.ensures.within inside)))
          ∙ sym (ap (λ lines. lines_read options lines (state_of q))
          (line_there bytes at end next c.lines-test.true
          (c.line_end-end.ensures.first inv.within) c.after_ending-next.ensures.value
          c.after_ending-next.ensures.after))
          ∙ inv.left;
    }

pub returns-clause-state : goal.returns-clause-state
returns-clause-state c =
    let p = c.args.self.now in
    let bytes = p.bytes.now in
    let at = c.lines.at in
    sym (ap (λ left. lines_read p.options.now (lines_of left) (state_of c.lines.self))
    (drop_all at bytes (omega (arith, c.lines-test.false)))) ∙ c.lines.invariant.left
