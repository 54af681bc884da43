-- The text between the two points of the place.
use Rattle.std.proofs.Common.{[], ap, ◌∙◌}
use Rattle.std.specs.Prelude.{unwrap_or}
use Rattle.md_base.specs.Place.{text_between}
use Rattle.md_facts.proofs.ends.text_left_at.Goals as goal

pub returns : goal.returns
returns c = λ one there.
    let bytes = c.args.checked.now.bytes in
    c.text_of_leaf.ensures
    ∙ ap (λ start. unwrap_or (text_between bytes start c.end_of.result) [])
    (c.start_of.ensures one there)
    ∙ ap (λ end. unwrap_or (text_between bytes one.facts.place.start end) [])
    (c.end_of.ensures one there)
