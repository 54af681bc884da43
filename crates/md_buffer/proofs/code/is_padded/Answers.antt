-- After a space a text may be cut.
use Rattle.std.proofs.Common.{◌≡◌, ℕ, Bool, true, List, [], ◌∷◌, length, arith, zero-lt-suc}
use Rattle.std.specs.Prelude.{slice_get}
use Rattle.std.specs.Bool.{OnTrue}
use Rattle.std.specs.Str.{IsCharBoundary, IsUtf8}
use Rattle.std.proofs.lemmas.Bool.{eqb-true, false≢true}
use Rattle.std.proofs.lemmas.Str.{IsCharBoundary-after_ascii}
use Rattle.md_buffer.specs.Code.{is_space}
use Rattle.md_buffer.proofs.code.is_padded.Goals as goal
use Rattle.md_buffer.proofs.code.is_padded.Goals.{then-is_space, else-is_space}

space_cut : (text : List ℕ) → IsUtf8 text → is_space (slice_get text 0) ≡ true →
    IsCharBoundary text 1
space_cut [] utf8 e = absurd (false≢true e)
space_cut (b ∷ bs) utf8 e =
    let space : b ≡ 32 = eqb-true b 32 e in
    IsCharBoundary-after_ascii (b ∷ bs) 0 utf8 (zero-lt-suc (length bs)) (omega (arith, space))

on_true : (b : Bool) (P : Type 0) → P → OnTrue b P
on_true b P p = grind arith

pub returns-then-is_space-2-clause-cut_start : goal.returns-then-is_space-2-clause-cut_start
returns-then-is_space-2-clause-cut_start c =
    grind (arith, on_true, then-is_space, space_cut, else-is_space, false≢true)
