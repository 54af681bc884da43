-- The text left, by the place.
use Rattle.std.proofs.Common.{rules, arith, ◌≡◌, ◌<◌, ◌+◌, drop, take, get_or, false}
use Rattle.std.specs.List.{prefix_len}
use Rattle.std.proofs.lemmas.List.Sums.{prefix_len-drop_no}
use Rattle.md_lines.specs.Classes.{is_in}
use Rattle.md_lines.proofs.Reading.{skipped, any_in, stop_at}
use Rattle.md_lines.proofs.cursor.Cursor.skip.Goals.{then-loop-at-test+else-is, else-loop-at-test}
use Rattle.md_lines.proofs.cursor.Cursor.skip.Goals as goal

pub returns-clause-text : goal.returns-clause-text
returns-clause-text c =
    let self = c.args.self.now in
    let test = is_in c.args.class in
    let bytes = self.bytes.now in
    let stops : c.loop-at.at < self.end → prefix_len test (drop c.loop-at.at bytes) ≡ 0 =
    λ before. elim c.loop-at-test.branch [
      | then-loop-at-test+else-is w ↦
          let fails : test (get_or bytes c.loop-at.at 0) ≡ false = search rules in
          prefix_len-drop_no test bytes c.loop-at.at 0 (omega arith) fails
      | else-loop-at-test w ↦ absurd (omega (arith, before))
    ] in
    let inv = c.loop-at.invariant in
    let count : c.loop-at.at ≡ self.at + prefix_len test (drop self.at (take self.end bytes)) =
    stop_at test bytes self.at c.loop-at.at self.end inv.0 inv.1 inv.2 stops in
    skipped test bytes self.at self.end c.loop-at.at count

pub returns-clause-is_any : goal.returns-clause-is_any
returns-clause-is_any c =
    let self = c.args.self.now in
    let test = is_in c.args.class in
    let bytes = self.bytes.now in
    let stops : c.loop-at.at < self.end → prefix_len test (drop c.loop-at.at bytes) ≡ 0 =
    λ before. elim c.loop-at-test.branch [
      | then-loop-at-test+else-is w ↦
          let fails : test (get_or bytes c.loop-at.at 0) ≡ false = search rules in
          prefix_len-drop_no test bytes c.loop-at.at 0 (omega arith) fails
      | else-loop-at-test w ↦ absurd (omega (arith, before))
    ] in
    let inv = c.loop-at.invariant in
    let count : c.loop-at.at ≡ self.at + prefix_len test (drop self.at (take self.end bytes)) =
    stop_at test bytes self.at c.loop-at.at self.end inv.0 inv.1 inv.2 stops in
    any_in test bytes self.at self.end c.loop-at.at count
