-- The tag is what was read.
use Rattle.std.proofs.Common.{◌≡◌, ◌∙◌, sym, subst, true}
use Rattle.std.specs.Cmp.Lexicographic.{bytes_decides}
use Rattle.md_text.specs.Html.{is_tag, void_tags}
use Rattle.md_reader.specs.Names.{listed}
use Rattle.md_reader.specs.Permitted.{permits}
use Rattle.md_reader.proofs.PieceLemmas.{void-tag}
use Rattle.md_reader.proofs.pieces.is_void_tag.Goals as goal

pub returns-in-Some-past_attributes : goal.returns-in-Some-past_attributes
returns-in-Some-past_attributes c = λ h.
    void-tag (permits c.args.protocols) (listed c.listed_for_void.result) c.args.text.now
    c.split_name.result.0.now c.split_name.result.1.now c.in-Some-past_attributes.rest.now
    c.split_name.ensures.is (sym c.is_own_tag.ensures ∙ c.if-is_own_tag.false)
    (λ x are. subst (λ n. is_tag void_tags n x ≡ true) (sym c.in-Some.ensures)
    (c.listed_for_void.ensures.tag x are))
    c.in-Some-past_attributes.ensures.are
    ((bytes_decides c.in-Some-past_attributes.rest.now _).0 (sym c.is_same.ensures.value ∙ h))
