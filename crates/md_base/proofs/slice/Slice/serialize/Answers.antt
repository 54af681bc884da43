-- The three parts that are pushed, spaces, bytes and spaces, are the padded text.
use Rattle.std.proofs.lemmas.Grind.{common_steps}
use Rattle.std.proofs.Common.{arith}
use Rattle.md_base.proofs.SpaceLemmas.{padded_none, padded_some}
use Rattle.md_base.proofs.slice.Slice.serialize.Goals as goal

pub returns-in_default : goal.returns-in_default
returns-in_default c = grind (arith, padded_none)

pub returns : goal.returns
returns c =
    let slice = c.args.self.now in
    padded_some slice.before slice.after slice.bytes.now c.in-Some.inner.now _
    c.in-Some.ensures (grind (arith, common_steps))
