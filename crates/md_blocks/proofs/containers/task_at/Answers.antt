-- The box is after the marker's columns.
use Rattle.std.proofs.Common.{ap, sym, ◌∙◌, ◌≡◌, ◌&&◌, true}
use Rattle.md_blocks.specs.ContainerBlocks.{is_padded}
use Rattle.md_blocks.specs.Marks.{opens_task}
use Rattle.md_blocks.specs.Positions.{rest_of}
use Rattle.md_blocks.specs.Rests.{unindented}
use Rattle.md_blocks.proofs.LineLemmas.{text_is}
use Rattle.md_blocks.proofs.containers.task_at.Goals as goal

pub returns-clause-there : goal.returns-clause-there
returns-clause-there c =
    let place = c.args.position.now in
    let padded : is_padded (rest_of place) ≡ true =
    sym c.is_padded.ensures ∙ c.if-not-is_padded.false in
    c.task_box.ensures.there ∙ ap opens_task (sym (text_is place))
    ∙ ap (λ is. is && opens_task (unindented (rest_of place))) (sym padded)
