-- One less is open.
use Rattle.std.proofs.Common.{arith}
use Rattle.md_blocks.proofs.TapeLemmas.{exited}
use Rattle.md_blocks.proofs.Written.{kept_pushed}
use Rattle.md_blocks.proofs.nesting.Nesting.exit.Goals as goal

pub invariant_of-self-2-clause-nested : goal.invariant_of-self-2-clause-nested
invariant_of-self-2-clause-nested c =
    exited _ _ _ _ _ _ _ c.in_ok-push.ensures.items (omega arith) c.args.self.now.nested

pub invariant_of-self-2-clause-kept : goal.invariant_of-self-2-clause-kept
invariant_of-self-2-clause-kept c =
    kept_pushed _ _ _ _ c.in_ok-push.ensures.items (omega arith) c.args.self.now.kept
