-- A node among blocks leaves no element open, and opens two at most beside what its children open.
use Rattle.std.proofs.Common.{◌≡◌, ℕ, ◌≤◌, suc, true, false, not, ◌||◌, List, sym, ◌∙◌, ap, arith}
use Rattle.std.proofs.Common.{inl, inr}
use Rattle.md_base.proofs.Lies.{lie}
use Rattle.std.proofs.lemmas.Bool.{cases_Bool}
use Rattle.md_base.specs.declared.event.Name.{Name}
use Rattle.md_base.specs.NameTests.{is_transparent}
use Rattle.md_meaning.specs.Meaning.At.{At}
use Rattle.md_meaning.specs.Meaning.Layout.{Piece}
use Rattle.md_meaning.specs.Meaning.Means.{prints}
use Rattle.md_content.specs.Underlined.{is_underline}
use Rattle.md_content.specs.Built.{Blocks, is_part, is_source, is_autolink}
use Rattle.md_safe.proofs.Cases.{either}
use Rattle.md_safe.proofs.Texts.{Escaped}
use Rattle.md_safe.proofs.Spot.{Setting, IsFitAt, IsGoodTarget, Inside}
use Rattle.md_safe.proofs.StringNodes.{is_text, text-node}
use Rattle.md_safe.proofs.SpanNodes.{is_shown}
use Rattle.md_safe.proofs.FlowNodes.{is_flow, leaf-escaped}
use Rattle.md_safe.proofs.BlockNodes.{hidden-prints, is_silent, silent-prints, is_marked}
use Rattle.md_safe.proofs.BlockNodes.{silent-block}
use Rattle.md_depth.proofs.Machine.{Leads}
use Rattle.md_depth.proofs.Moves.{Moves, none, more, adds-escaped}
use Rattle.md_depth.proofs.SpanMoves.{Room, Below, span-moves, autolink-moves}
use Rattle.md_depth.proofs.BlockMoves.{flow-moves, table-moves}

pub node-moves : (s : Setting) (t : At) (m n : ℕ) → Room m n → (name : Name) →
    t.around.is_escaping ≡ true → is_transparent name ≡ false →
    (is_part name || is_source name) ≡ false → IsFitAt s t name →
    (is_underline name ≡ true → (k : ℕ) × (suc k ≤ n) × Leads 0 0 k t.before.heading) →
    IsGoodTarget t.found.resource → (inner : List Piece) → Inside s t Blocks name inner →
    Below s m name inner → Moves s.context.ending n 0 0 (prints s.context t name inner)
node-moves s t m n room name e solid whole fit head good inner a below =
    elim (cases_Bool (is_marked name)) [
      | inr h ↦
          let is : is_silent name ≡ true = ap not h in
          rw (silent-prints s.context t name is inner)
          (more (omega arith) (below (silent-block name is).0))
      | inl h ↦ either (is_transparent name) _ h (λ is. lie (sym solid ∙ is)) (λ c.
          either (is_part name || is_source name) _ c (λ is. lie (sym whole ∙ is)) (λ c.
          either (is_text name) _ c (λ is. adds-escaped (prints s.context t name inner)
          (text-node s t Escaped name (λ x h. h e) is fit inner)) (λ c.
          either (is_shown name) _ c (λ is. span-moves s t m n room name e is good inner a below)
          (λ c. either (is_autolink name) _ c (λ is. autolink-moves s t m n room name is inner)
          (λ c. either (is_flow name) _ c
          (λ is. flow-moves s t m n room name is fit head inner a below)
          (grind (arith, either, adds-escaped, leaf-escaped, hidden-prints, none, table-moves)))))))
    ]
