-- As many are open as before.
use Rattle.md_blocks.proofs.TapeLemmas.{put}
use Rattle.md_blocks.proofs.Written.{kept_put}
use Rattle.md_blocks.proofs.nesting.Nesting.put.Goals as goal

pub invariant_of-self-clause-nested : goal.invariant_of-self-clause-nested
invariant_of-self-clause-nested c =
    put _ _ c.args.block _ _ c.push.ensures.items c.requires.enters_none c.requires.exits_none
    c.args.self.now.nested

pub invariant_of-self-clause-kept : goal.invariant_of-self-clause-kept
invariant_of-self-clause-kept c =
    kept_put _ _ _ c.args.block _ c.push.ensures.items c.requires.kept c.args.self.now.kept
