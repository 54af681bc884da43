-- The target that comes last in the vector is the innermost one.
use Rattle.std.proofs.Common.{true, sym, ap, ◌∙◌, ◌∷◌, []}
use Rattle.md_tree.proofs.Common.{reverse, reverse-append}
use Rattle.md_tree.specs.Walk.{target_of}
use Rattle.md_tree.proofs.walk.leaving.take_back.Goals as goal

pub returns-in-Some-clause-target : goal.returns-in-Some-clause-target
returns-in-Some-clause-target c =
    sym (ap (λ aimed. target_of aimed (reverse c.args.targets.now.items)) c.if-not-aimed.false
    ∙ ap (λ targets. target_of true (reverse targets)) c.in-Some.ensures.items
    ∙ ap (target_of true) (reverse-append c.pop.new.self.items (c.in-Some.target ∷ [])))
