-- The word begins after all spaces and tabs.
use Rattle.std.proofs.Common.{◌∙◌}
use Rattle.md_blocks.proofs.Trimming.{trimmed}
use Rattle.md_blocks.proofs.code.first_word.Goals as goal

pub returns-clause-start : goal.returns-clause-start
returns-clause-start c =
    let skipped = c.trim_start-start.ensures in
    c.new.ensures.start
    ∙ trimmed c.args.line.now c.args.from c.trim_start-start.result skipped.after
    skipped.none_skipped skipped.first
