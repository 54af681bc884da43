-- A footnote definition's identifier gets into the set, another mention's doesn't. The search
-- doesn't look each identifier up in the longer set.
use Rattle.std.proofs.Common.{◌∷◌, ◌+◌, List, Option, ℕ, drop, ap, sym, ◌∙◌}
use Rattle.md_tree.proofs.Common.{Mentioned, mentions_among, footnoted, footnoted_by}
use Rattle.md_tree.proofs.MentionsResolved.{IdentifiersBefore-at, footnoted_by-other}
use Rattle.md_tree.proofs.MentionsResolved.{IdentifiersBefore-put}
use Rattle.md_tree.proofs.resolve.footnotes.Goals as goal

-- what footnotes are defined
abbrev read : List ℕ → List Mentioned → List (Option (List ℕ))
read bytes mentioned = footnoted bytes (mentions_among mentioned)

pub loop-mentioned-preserved : goal.loop-mentioned-preserved
loop-mentioned-preserved c =
    let bytes = c.args.bytes.now in
    let mentions = c.args.mentions.now in
    let index = c.loop-mentioned.mentioned-index in
    let known = c.loop-mentioned.identifiers in
    let later : List (Option (List ℕ)) = read bytes (drop (index + 1) mentions) in
    elim c.match-mentioned.branch [
      | goal.in-FootnoteDefinition+in_ok-identifier+in_ok-insert w ↦
          rw w.identifiers-is
          (IdentifiersBefore-put known _ w.in_ok-identifier.identifier later (read bytes mentions)
          (IdentifiersBefore-at (read bytes) mentions index known c.loop-mentioned-test.true
          c.loop-mentioned.invariant _ _
          (ap (λ mention. footnoted_by bytes mention later) w.in-FootnoteDefinition.is
          ∙ ap (λ i. i ∷ later) (sym w.in_ok-identifier.ensures))) w.in_ok-insert.ensures.updates)
      | goal.in_default w ↦
          rw w.identifiers-is
          (IdentifiersBefore-at (read bytes) mentions index known c.loop-mentioned-test.true
          c.loop-mentioned.invariant _ _
          (footnoted_by-other bytes _ later w.in_default.not-FootnoteDefinition))
    ]
