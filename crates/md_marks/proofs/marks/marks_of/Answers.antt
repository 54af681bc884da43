-- A byte of the block is marked exactly if it is a mark by its class.
use Rattle.std.proofs.Common.{◌∙◌, ap, arith, get_or, w8}
use Rattle.std.specs.Prelude.{if◌then◌else◌}
use Rattle.std.proofs.lemmas.Simd.{length-chunk, chunk-fits, get_or-chunk}
use lib.Lanes.{chunk}
use Rattle.md_lines.specs.Classes.{is_mark}
use Rattle.md_marks.proofs.MarkTables.{block-marks}
use Rattle.md_marks.proofs.marks.marks_of.Goals as goal

pub returns : goal.returns
returns c =
    let text = c.args.text.now in
    let marks = block-marks (chunk 0 32 text) _ _ (length-chunk 0 32 text c.requires)
    (chunk-fits w8 0 32 text c.type_inv.text) c.by_upper_half.ensures c.by_lower_half.ensures in (
      marks.0,
      λ at lt. marks.1 at lt ∙ ap (λ byte. if is_mark byte then 1 else 0)
          (get_or-chunk 0 32 text at 0 lt ∙ ap (λ i. get_or text i 0) (omega arith)),
    )
