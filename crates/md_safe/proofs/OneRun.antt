-- However many steps are allowed, the tokens are the same.
use Rattle.std.proofs.Common.{◌≡◌, ℕ, List, ◌++◌, Option, Some, arith, option_map, zero, suc}
use Rattle.md_safe.specs.Token.{Token}
use Rattle.md_safe.specs.TokenizerStates.{State, Step}
use Rattle.md_safe.specs.Tokenizer.{run, after_step, IsRun}

pub map_some : (out : List Token) (o : Option (List Token)) (x : List Token) →
    option_map (λ later. out ++ later) o ≡ Some x → (y : List Token) × (o ≡ Some y) × (x ≡ out ++ y)
map_some out o x e = grind arith

same_after : (n m : ℕ) → ((state : State) (input : List ℕ) (x y : List Token) → run n state input
    ≡ Some x → run m state input ≡ Some y → x ≡ y) → (s : Step) (x y : List Token) →
    after_step (run n) s ≡ Some x → after_step (run m) s ≡ Some y → x ≡ y
same_after n m go s x y e f = grind arith

same_run : (n m : ℕ) (state : State) (input : List ℕ) (x y : List Token) →
    run n state input ≡ Some x → run m state input ≡ Some y → x ≡ y
same_run zero m state input x y e f = cc
same_run (suc n) zero state input x y e f = cc
same_run (suc n) (suc m) state input x y e f = same_after n m (same_run n m) _ x y e f

pub one_run : (state : State) (input : List ℕ) (x y : List Token) → IsRun state input x →
    IsRun state input y → x ≡ y
one_run state input x y h k = same_run h.steps k.steps state input x y h.emits k.emits
