-- The fence at a position.
use Rattle.std.proofs.Common.{ℕ, ap, sym, ◌∙◌, ◌≡◌}
use Rattle.md_blocks.specs.declared.code.Fence.{Fence}
use Rattle.md_blocks.specs.declared.position.Position.{Position}
use Rattle.md_blocks.specs.LeafBlocks.{fence_of}
use Rattle.md_blocks.specs.Marks.{run_of}
use Rattle.md_blocks.specs.Positions.{rest_of, text_at}
use Rattle.md_blocks.specs.Rests.{unindented}
use Rattle.md_blocks.proofs.LineLemmas.{text_is}

abbrev fence_with : ℕ → ℕ → ℕ → Fence
fence_with mark length indent = record { mark = mark; length = length; indent = indent }

-- it is that of the rest of the line
pub fence_at : (p : Position) (mark : ℕ) (fence : Fence) → fence.mark ≡ mark →
    fence.length ≡ run_of mark (text_at p) → fence.indent ≡ p.indent →
    fence ≡ fence_of mark (rest_of p)
fence_at p mark fence mark_is length_is indent_is =
    ap (λ n. fence_with n fence.length fence.indent) mark_is
    ∙ ap (λ n. fence_with mark n fence.indent) (length_is ∙ ap (run_of mark) (sym (text_is p)))
    ∙ ap (fence_with mark (run_of mark (unindented (rest_of p)))) (indent_is ∙ p.indents)
