-- A place is its two points.
use Rattle.std.proofs.Common.{ap, ◌∙◌}
use Rattle.md_tree.specs.Rules.{place}
use Rattle.md_facts.proofs.ends.place_left_at.Goals as goal

pub returns : goal.returns
returns c = λ one there.
    ap (λ start. place start c.end_of.result) (c.start_of.ensures one there)
    ∙ ap (λ end. place one.facts.place.start end) (c.end_of.ensures one there)
