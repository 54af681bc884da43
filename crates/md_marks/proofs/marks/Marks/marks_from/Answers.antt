-- The bits from an index on are those of the block, shifted.
use Rattle.std.proofs.Common.{◌+◌, ◌-◌, ◌/◌, ◌%◌, ◌^◌, ◌<◌, ◌≤◌, ◌≡◌, length, take, drop}
use Rattle.std.proofs.Common.{arith, refl, subst}
use Rattle.std.proofs.lemmas.List.{take_all, length-drop}
use Rattle.md_marks.specs.NextMark.{AreMarks}
use Rattle.md_marks.proofs.MarkBits.{shifted-known, shifted-read}
use Rattle.md_marks.proofs.marks.Marks.marks_from.Goals as goal

pub returns-then-passed-lt-LANES-clause-marks : goal.returns-then-passed-lt-LANES-clause-marks
returns-then-passed-lt-LANES-clause-marks c =
    let inside = c.self.inside in
    let passed = (c.args.at + (18446744073709551616 - inside.block)) % 18446744073709551616 in
    subst (λ bytes. AreMarks (drop c.args.at bytes) (32 - passed) (inside.bits / 2 ^ passed))
    c.self.view_is (shifted-known inside.bytes.now inside.block c.args.at inside.bits passed refl
    c.if-passed-lt-LANES.true (rw c.self.view_is c.requires.within) (omega (arith, c.self.told.1))
    c.self.invariant)

pub returns-clause-marks : goal.returns-clause-marks
returns-clause-marks c =
    let inside = c.self.inside in
    let block = c.min-block.result in
    let bits = c.marks_of-self-inside.result in
    let bytes = inside.bytes.now in
    let rest : take (length bytes - block) (drop block bytes) ≡ drop block bytes =
    take_all (length bytes - block) (drop block bytes)
    (omega (arith, length-drop block bytes)) in
    let long : 32 ≤ length inside.bytes.now = rw c.self.view_is c.requires.long in
    let within : c.args.at < length inside.bytes.now = rw c.self.view_is c.requires.within in
    subst (λ all. AreMarks (drop c.args.at all) (32 - (c.args.at - block))
    (bits / 2 ^ (c.args.at - block)))
    c.self.view_is (shifted-read inside.bytes.now block c.args.at bits
    (omega (arith, c.min-block.ensures)) (omega (arith, c.min-block.ensures, long, within))
    (subst (λ text. AreMarks text 32 bits) rest c.marks_of-self-inside.ensures))
