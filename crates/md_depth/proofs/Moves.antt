-- How many elements pieces leave open, wherever they are laid.
use Rattle.std.specs.List.{list_all}
use Rattle.std.proofs.Common.{◌≡◌, ℕ, ◌+◌, ◌≤◌, suc, max, Bool, true, false, cond, List, [], ◌∷◌}
use Rattle.std.proofs.Common.{◌++◌, refl, arith}
use Rattle.md_text.proofs.HtmlNames.{no_angle, escaped-angle}
use Rattle.md_meaning.specs.Meaning.Layout.{Piece, Text, Needed, Forced, laid_after, layout}
use Rattle.md_meaning.specs.Meaning.Layout.{on_own_line}
use Rattle.md_safe.proofs.Texts.{Escaped}
use Rattle.md_safe.proofs.Laid.{Adds, adds-weaker, laid-append}
use Rattle.md_depth.proofs.Machine.{State, at, run, run-append, quiet, Leads, leads-quiet}
use Rattle.md_depth.proofs.Machine.{leads-open, leads-close, leads-void, leads-kept}

-- pieces change the number of open elements as a text does
pub record Moves (e : List ℕ) (n a b : ℕ) (pieces : List Piece) : Type 0 where
  pub moves : (s : State) (text : List ℕ) (l t : ℕ) → l + n ≤ t → run s text ≡ at (l + a) t →
      run s (laid_after e text pieces) ≡ at (l + b) t

infixr 4 ◌▸◌
pub ◌▸◌ : {e : List ℕ} {n a b c : ℕ} {xs ys : List Piece} → Moves e n a b xs → Moves e n b c ys →
    Moves e n a c (xs ++ ys)
◌▸◌ {e} {n} {a} {b} {c} {xs} {ys} f g = record {
  moves = λ s text l t few before.
      rw laid-append (g.moves s (laid_after e text xs) l t few (f.moves s text l t few before));
}

pub text : {e : List ℕ} {n a b : ℕ} {x : List ℕ} → Leads a b n x → Moves e n a b (Text x ∷ [])
text {x = x} f = record {
  moves = λ s text l t few before. rw (run-append, before) (f.leads l t few);
}

pub none : {e : List ℕ} {n a : ℕ} → Moves e n a a []
none = record { moves = λ s text l t few before. before }

pub forced : {e : List ℕ} {n a : ℕ} → Escaped e → Moves e n a a (Forced ∷ [])
forced {e} {n} {a} h = grind (arith, run-append, quiet, escaped-angle)

pub needed : {e : List ℕ} {n a : ℕ} → Escaped e → Moves e n a a (Needed ∷ [])
needed {e} {n} {a} h = grind (arith, run-append, quiet, escaped-angle)

-- one or the other
pub choose : {e : List ℕ} {n a b : ℕ} (test : Bool) {xs ys : List Piece} → Moves e n a b xs →
    Moves e n a b ys → Moves e n a b (cond test xs ys)
choose true f g = f
choose false f g = g

-- pieces that add a text without `<`
pub adds-quiet : {e : List ℕ} {n a : ℕ} (pieces : List Piece) →
    Adds e (λ x. list_all no_angle x ≡ true) pieces → Moves e n a a pieces
adds-quiet {e} {n} {a} pieces adds = grind (arith, run-append, quiet)

pub adds-escaped : {e : List ℕ} {n a : ℕ} (pieces : List Piece) → Adds e Escaped pieces →
    Moves e n a a pieces
adds-escaped pieces adds = adds-quiet pieces (adds-weaker escaped-angle adds)

-- pieces in more elements that are open, where more may be
pub more : {e : List ℕ} {a m n : ℕ} {pieces : List Piece} → a + m ≤ n → Moves e m 0 0 pieces →
    Moves e n a a pieces
more {e} {a} {m} fits f = record {
  moves = λ s text l t few before. grind (arith, f.moves s text (l + a) t (omega arith));
}

-- the text of pieces that are laid by themselves
pub laid : {e : List ℕ} {n : ℕ} {pieces : List Piece} → Moves e n 0 0 pieces →
    Leads 0 0 n (layout e pieces)
laid f = record { leads = λ l t few. f.moves (at (l + 0) t) [] l t few refl }

-- ---- single pieces

pub plain : {e : List ℕ} {n a : ℕ} (x : List ℕ) → Escaped x → Moves e n a a (Text x ∷ [])
plain x h = text (leads-quiet x (escaped-angle x h))

-- a part of a tag
pub part : {e : List ℕ} {n a : ℕ} (x : List ℕ) → list_all no_angle x ≡ true →
    Moves e n a a (Text x ∷ [])
part x h = text (leads-quiet x h)

abbrev pub IsOpening : List ℕ → Type 0
IsOpening x = (l t : ℕ) → run (at l t) x ≡ at (suc l) (max t (suc l))

abbrev pub IsClosing : List ℕ → Type 0
IsClosing x = (l t : ℕ) → run (at (suc l) t) x ≡ at l t

abbrev pub IsVoid : List ℕ → Type 0
IsVoid x = (l t : ℕ) → run (at l t) x ≡ at l (max t (suc l))

pub open_tag : {e : List ℕ} {n a : ℕ} (x : List ℕ) → IsOpening x → suc a ≤ n →
    Moves e n a (suc a) (Text x ∷ [])
open_tag x computes fits = text (leads-open x computes fits)

pub close_tag : {e : List ℕ} {n a : ℕ} (x : List ℕ) → IsClosing x →
    Moves e n (suc a) a (Text x ∷ [])
close_tag x computes = text (leads-close x computes)

pub void_tag : {e : List ℕ} {n a : ℕ} (x : List ℕ) → IsVoid x → suc a ≤ n →
    Moves e n a a (Text x ∷ [])
void_tag x computes fits = text (leads-void x computes fits)

pub kept : {e : List ℕ} {n a m : ℕ} {x : List ℕ} → Leads 0 0 m x → a + m ≤ n →
    Moves e n a a (Text x ∷ [])
kept f fits = text (leads-kept f fits)

-- ---- on lines of their own

pub open_line : {e : List ℕ} {n a : ℕ} (x : List ℕ) → Escaped e → IsOpening x → suc a ≤ n →
    Moves e n a (suc a) (on_own_line x)
open_line x h computes fits = needed h ▸ open_tag x computes fits

pub close_line : {e : List ℕ} {n a : ℕ} (x : List ℕ) → Escaped e → IsClosing x →
    Moves e n (suc a) a (on_own_line x)
close_line x h computes = needed h ▸ close_tag x computes
