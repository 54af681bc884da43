-- The first of the events begin the tree that all of them begin.
use Rattle.std.proofs.Common.{◌++◌, take, drop, sym, ap, ◌∙◌, append_assoc}
use Rattle.md_tree.proofs.Common.{take-append-drop}
use Rattle.md_tree.proofs.laws.open_events_are_in_order.Goals as goal

pub returns : goal.returns
returns c = λ events count held none. none held.0.0 (drop count events ++ held.0.1) held.0.2
    (held.0.3 ∙ ap (λ es. es ++ held.0.1) (sym (take-append-drop count events))
    ∙ append_assoc (take count events) (drop count events) held.0.1)
