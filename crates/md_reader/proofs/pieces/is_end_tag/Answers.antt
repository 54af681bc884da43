-- The tag is what was read.
use Rattle.std.proofs.Common.{[], ◌∙◌, sym, refl}
use Rattle.std.specs.Cmp.Lexicographic.{bytes_decides}
use Rattle.md_reader.proofs.PieceLemmas.{end-tag}
use Rattle.md_reader.proofs.pieces.is_end_tag.Goals as goal

pub returns-in-Some : goal.returns-in-Some
returns-in-Some c = λ h.
    end-tag c.args.text.now c.split_name.result.0.now c.split_name.result.1.now
    c.split_name.ensures.is (sym c.is_own_tag.ensures ∙ c.if-is_own_tag.false)
    (c.in-Some.ensures [] refl)
    ((bytes_decides c.split_name.result.1.now _).0 (sym c.is_same.ensures.value ∙ h))
