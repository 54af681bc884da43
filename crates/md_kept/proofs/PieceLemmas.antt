-- Pieces, one after another.
use Rattle.std.proofs.Common.{◌≡◌, ◌≤◌, ◌∷◌, ◌++◌, [], ℕ, List, true, false, All, refl, sym, ap}
use Rattle.std.proofs.Common.{◌∙◌, subst, length, drop, slice_range}
use Rattle.std.specs.List.{concat}
use Rattle.std.proofs.lemmas.List.Elements.{All-cons, All-nil}
use Rattle.std.proofs.lemmas.List.Folds.{drop_split}
use Rattle.std.proofs.Math.Seq.{drop-length}
use Rattle.md_base.specs.Place.{byte_index}
use Rattle.md_base.specs.declared.event.Event.{Event}
use Rattle.md_base.specs.declared.event.Kind.TheVariants.{Enter, Exit}
use Rattle.md_base.specs.declared.event.Point.{Point}
use Rattle.md_reader.specs.Pieces.{IsAuthorsPiece}
use Rattle.md_kept.specs.Pieces.{ArePieces, html_texts, is_html_data}

byte-at : (p : Point) → p.vs ≡ 0 → byte_index p ≡ p.index
byte-at p none = rw none refl

module _ (bytes : List ℕ) (at : ℕ) (e : Event) (rest : List Event) where
  -- the same pieces
  same : html_texts bytes at (e ∷ rest) ≡ html_texts bytes at rest → ArePieces bytes at rest →
      ArePieces bytes at (e ∷ rest)
  same texts are = record {
    each = subst (All IsAuthorsPiece) (sym texts) are.each;
    joined = are.joined ∙ ap (λ x. concat x) (sym texts);
  }

  pub other : is_html_data e.name ≡ false → ArePieces bytes at rest → ArePieces bytes at (e ∷ rest)
  other none are = same (rw none refl) are

  pub entered : is_html_data e.name ≡ true → e.kind ≡ Enter → e.point.vs ≡ 0 →
      e.point.index ≡ at → ArePieces bytes at rest → ArePieces bytes at (e ∷ rest)
  entered html kind none index are =
      same (rw (html, kind) (ap (λ i. html_texts bytes i rest) (byte-at e.point none ∙ index))) are

  pub exited : is_html_data e.name ≡ true → e.kind ≡ Exit → e.point.vs ≡ 0 →
      at ≤ e.point.index → IsAuthorsPiece (slice_range bytes at e.point.index) →
      ArePieces bytes e.point.index rest → ArePieces bytes at (e ∷ rest)
  exited html kind none behind piece are =
      let index = e.point.index in
      let own = slice_range bytes at index in
      let texts : html_texts bytes at (e ∷ rest) ≡ own ∷ html_texts bytes index rest =
      rw (html, kind) (ap (λ i. slice_range bytes at i ∷ html_texts bytes i rest)
      (byte-at e.point none)) in
      record {
        each = subst (All IsAuthorsPiece) (sym texts)
            (All-cons IsAuthorsPiece own (html_texts bytes index rest) piece are.each);
        joined = drop_split bytes at index behind ∙ ap (λ x. own ++ x) are.joined
            ∙ ap (λ x. concat x) (sym texts);
      }

-- no events, no bytes
pub ended : (bytes : List ℕ) (at : ℕ) → at ≡ length bytes → ArePieces bytes at []
ended bytes at end = record {
  each = All-nil IsAuthorsPiece;
  joined = subst (λ i. drop i bytes ≡ []) (sym end) (drop-length bytes);
}
