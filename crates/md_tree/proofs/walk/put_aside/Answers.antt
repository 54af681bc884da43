-- The saved target comes first among the saved ones, and is nothing if there was no target.
use Rattle.std.proofs.Common.{◌≡◌, Bool, true, false, sym, ap, ◌∙◌, ◌∷◌, []}
use Rattle.md_tree.proofs.Common.{reverse, reverse-append}
use Rattle.md_tree.specs.Walk.{target_of}
use Rattle.md_tree.proofs.walk.put_aside.Goals.{in-Missing, in_default}
use Rattle.md_tree.proofs.walk.put_aside.Goals as goal

clash : (b : Bool) → b ≡ false → b ≡ true → ⊥
clash b e f = cc

pub returns-then-matches-clause-aside : goal.returns-then-matches-clause-aside
returns-then-matches-clause-aside c =
    elim c.match-matches.branch [
      | in-Missing w ↦ sym w.in-Missing.is
      | in_default w ↦ absurd (clash c.match-matches.matches w.matches-is c.if-matches.true)
    ]

pub returns-clause-aside : goal.returns-clause-aside
returns-clause-aside c =
    ap (λ targets. target_of true (reverse targets)) c.in_ok-push.ensures.items
    ∙ ap (target_of true) (reverse-append c.args.targets.now.items (c.args.target.now ∷ []))
