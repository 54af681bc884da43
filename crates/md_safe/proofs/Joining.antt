-- Some steps, and then others.
use Rattle.std.proofs.Common.{◌≡◌, ℕ, List, [], ◌++◌, refl, ap, ◌∙◌, subst, append_assoc, arith}
use Rattle.std.proofs.Common.{append-nil, Some, option_map, zero, suc}
use Rattle.md_safe.specs.Token.{Token}
use Rattle.md_safe.specs.TokenizerStates.{State, Data, Step, Goes, Stops, Stuck}
use Rattle.md_safe.specs.Tokenizer.{step, run, after_step, IsRun}
use Rattle.md_safe.specs.Tokenizes.{Tokenizes, emitted_before, and_then, steps}
use Rattle.md_safe.proofs.OneRun.{map_some}

same_step : {a b : State} {x y : List ℕ} {s t : List Token} → Goes s a x ≡ Goes t b y →
    (a ≡ b) × (x ≡ y) × (s ≡ t)
same_step e = (cc, cc, cc)

-- the rest and the emitted tokens after a first step
went : (out : List Token) (s : Step) (t : List Token) (last : State) (mid : List ℕ) →
    emitted_before out s ≡ Goes t last mid →
    (later : List Token) × (s ≡ Goes later last mid) × (out ++ later ≡ t)
went out s t last mid e = grind arith

-- a claim of a way that goes back over each step
abbrev GoesBack : (State → List ℕ → List Token → Type 0) → Type 0
GoesBack P = (state next : State) (input rest : List ℕ) (out t : List Token) →
    step state input ≡ Goes out next rest → P next rest t → P state input (out ++ t)

module _ (P : State → List ℕ → List Token → Type 0) (g : GoesBack P) (last : State) (mid : List ℕ)
    (u : List Token) where
  -- of the steps after one, for `back`
  abbrev Backs : ℕ → Type 0
  Backs n =
      (state : State) (input : List ℕ) (t : List Token) → steps n state input ≡ Goes t last mid →
      P state input (t ++ u)

  back-step : (n : ℕ) → Backs n → (state : State) (input : List ℕ) (t : List Token) (s : Step) →
      step state input ≡ s → and_then (steps n) s ≡ Goes t last mid → P state input (t ++ u)
  back-step n go state input t (Goes out next rest) is e =
      let w = went _ _ t _ _ e in
      subst (λ x. P state input (x ++ u)) w.2 (rw append_assoc
      (g state next input rest out (w.0 ++ u) is (go next rest w.0 w.1)))
  back-step n go state input t (Stops out) is e = absurd (cc e)
  back-step n go state input t Stuck is e = absurd (cc e)

  back : P last mid u → (n : ℕ) → Backs n
  back h zero state input t e = grind (arith, same_step)
  back h (suc n) state input t e = back-step n (back h n) _ _ t _ refl e

pub leads-back : (left : List ℕ) → GoesBack (λ state input t. Tokenizes state input t left)
leads-back left state next input rest out t e h = record {
  count = suc h.count;
  goes = ap (and_then (steps h.count)) e ∙ ap (emitted_before out) h.goes;
}

pub run-back : GoesBack IsRun
run-back state next input rest out t e h = record {
  steps = suc h.steps;
  emits = ap (after_step (run h.steps)) e ∙ ap (option_map (λ later. out ++ later)) h.emits;
}

-- some steps, and then others
pub leads-on : (state : State) (input mid left : List ℕ) (t u : List Token) →
    Tokenizes state input t mid → Tokenizes Data mid u left → Tokenizes state input (t ++ u) left
leads-on state input mid left t u h k = back _ (leads-back _) _ _ u k _ state input t h.goes

-- some steps, and then a run
pub runs-on : (state : State) (input mid : List ℕ) (t u : List Token) →
    Tokenizes state input t mid → IsRun Data mid u → IsRun state input (t ++ u)
runs-on state input mid t u h k = back _ run-back _ _ u k _ state input t h.goes

-- and from any other state
pub runs-by : (n : ℕ) (state last : State) (input mid : List ℕ) (t u : List Token) →
    steps n state input ≡ Goes t last mid → IsRun last mid u → IsRun state input (t ++ u)
runs-by n state last input mid t u e k = back _ run-back _ _ u k n state input t e

-- ---- a run begins with the steps that there are

-- the rest of a run
abbrev Rest : List ℕ → List Token → List Token → Type 0
Rest mid t all = (u : List Token) × IsRun Data mid u × (all ≡ t ++ u)

run-rest : (mid : List ℕ) →
    GoesBack (λ state input t. (all : List Token) → IsRun state input all → Rest mid t all)
run-rest mid state next input rest out t e h all k = by k.steps k.emits
  where
    by : (n : ℕ) → run n state input ≡ Some all → Rest mid (out ++ t) all
    by zero f = absurd (cc f)
    by (suc n) f =
        let w = map_some out (run n next rest) all (rw e at f) in
        let r = h w.0 record { steps = n; emits = w.1 } in
        (r.0, r.1, cc (w.2, r.2, append_assoc out t r.0))

pub run-on : (state : State) (input mid : List ℕ) (t all : List Token) →
    Tokenizes state input t mid → IsRun state input all → Rest mid t all
run-on state input mid t all h k = rw append-nil at
    (back _ (run-rest mid) _ _ [] (λ all k. (all, k, refl)) _ state input t h.goes) all k
