-- One more is open.
use Rattle.md_blocks.proofs.TapeLemmas.{entered}
use Rattle.md_blocks.proofs.Written.{entered_within, kept_pushed}
use Rattle.md_blocks.proofs.nesting.Nesting.enter.Goals as goal

pub invariant_of-self-in-Ok-clause-nested : goal.invariant_of-self-in-Ok-clause-nested
invariant_of-self-in-Ok-clause-nested c =
    entered _ _ c.args.block _ _ c.in-Ok.ensures.items c.in_ok-push.ensures.len c.requires.shallow
    c.requires.enters c.args.self.now.nested

pub invariant_of-self-in-Ok-clause-kept : goal.invariant_of-self-in-Ok-clause-kept
invariant_of-self-in-Ok-clause-kept c =
    kept_pushed _ _ _ c.args.block c.in-Ok.ensures.items
    (entered_within _ c.args.block c.requires.enters) c.args.self.now.kept
