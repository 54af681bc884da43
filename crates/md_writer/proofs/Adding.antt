-- A resolved URL is one more piece.
use Rattle.std.proofs.Common.{◌≡◌, ◌∷◌, ◌++◌, [], ℕ, List, Bool, true, false, not, Option, Some}
use Rattle.std.proofs.Common.{refl, sym, ap, ◌∙◌, subst, Result, Ok, Err, IfOk, if◌then◌else◌}
use Rattle.std.proofs.Common.{arith}
use Rattle.std.specs.List.{concat}
use Rattle.std.specs.Result.{is_err}
use Rattle.std.proofs.lemmas.Bool.{true≢false}
use Rattle.std.proofs.lemmas.List.{append-nil}
use Rattle.std.proofs.lemmas.List.Elements.{All-append, All-cons, All-nil}
use Rattle.std.proofs.lemmas.List.Folds.{concat-append}
use Rattle.md_urls.specs.Resolved.{resolved, stays}
use Rattle.md_writer.specs.Added.{AreAdded, IsPiece}

-- a piece is appended
pushed : (base : Option (List ℕ)) (old piece new : List ℕ) → IsPiece base piece →
    new ≡ old ++ piece → AreAdded base old → AreAdded base new
pushed base old piece new is appended before = record {
  pieces = before.pieces ++ piece ∷ [];
  each = All-append (IsPiece base) before.pieces (piece ∷ []) before.each
      (All-cons (IsPiece base) piece [] is (All-nil (IsPiece base)));
  joined = appended ∙ ap (λ front. front ++ piece) before.joined
      ∙ ap (λ back. concat before.pieces ++ back) (sym (append-nil piece))
      ∙ sym (concat-append before.pieces (piece ∷ []));
}

changes : (test : Bool) → true ≡ not test → test ≡ false
changes test known = grind arith

-- what a call that doesn't fail appends
pub adds-piece : {E : Type 0} (base old new url : List ℕ) (result : Result Bool E) →
    is_err result ≡ false → IfOk result (λ other. other ≡ not (stays url)) →
    IfOk result (λ other. new ≡ old ++ (if other then resolved base url else [])) →
    AreAdded (Some base) old → AreAdded (Some base) new
adds-piece base old new url (Err error) ok changed text before = absurd (true≢false ok)
adds-piece base old new url (Ok false) ok changed text before =
    subst (AreAdded (Some base)) (sym (text ∙ append-nil old)) before
adds-piece base old new url (Ok true) ok changed text before =
    pushed (Some base) old (resolved base url) new (record {
      url = url;
      changes = changes (stays url) changed;
      is = refl;
    }) text before
