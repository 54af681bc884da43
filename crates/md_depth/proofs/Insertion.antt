-- A text inserted before an end tag of another one opens at most as many elements as it does alone,
-- in addition to those open there.
use Rattle.std.proofs.Common.{◌≡◌, ℕ, ◌+◌, ◌-◌, ◌≤◌, List, [], ◌∷◌, ◌++◌, refl, ap, sym, ◌∙◌, arith}
use Rattle.md_depth.proofs.Machine.{Out, Bad, State, at, to, step, run, run-append, Leads}

top-grows : (s : State) (x : List ℕ) → s.top ≤ (run s x).top
top-grows s [] = omega arith
top-grows s (byte ∷ x) = grind (arith, top-grows (step s byte) x)

below-top : (s : State) (x : List ℕ) → s.level ≤ s.top → (run s x).level ≤ (run s x).top
below-top s [] low = low
below-top s (byte ∷ x) low = below-top (step s byte) x (grind arith)

-- two `<` in a row stay
bad-stays : (x : List ℕ) (l t : ℕ) → (run (to Bad (at l t)) x).spot ≡ Bad
bad-stays [] l t = refl
bad-stays (byte ∷ x) l t = bad-stays x l t

-- the same with more that were open at most
abbrev raise : ℕ → State → State
raise t s = record { spot = s.spot; level = s.level; top = t }

run-raised : (t : ℕ) (s : State) (x : List ℕ) → (run s x).top ≤ t →
    run (raise t s) x ≡ raise t (run s x)
run-raised t s [] few = refl
run-raised t s (byte ∷ x) few = grind (arith, top-grows, run-raised t (step s byte) x)

-- a text that stands before `<` in another one
pub leads-put : (n k : ℕ) (y w z : List ℕ) → Leads 0 0 n (y ++ (60 ∷ z)) → Leads 0 0 k w →
    Leads 0 0 (n + k) (y ++ (w ++ (60 ∷ z)))
leads-put n k y w z f g = record {
  leads = λ l t few.
      let low : ℕ = t - k in
      let begun : State = at (l + 0) low in
      let here : State = run begun y in
      let whole : run here (60 ∷ z) ≡ begun =
      sym (run-append begun y (60 ∷ z)) ∙ f.leads l low (omega arith) in
      let out : here.spot ≡ Out = grind (arith, bad-stays) in
      let all : (run here (60 ∷ z)).top ≡ low = ap (λ s. s.top) whole in
      let most : here.top ≡ low =
      omega (arith, top-grows begun y, top-grows here (60 ∷ z), all) in
      let level : here.level ≤ low = omega (arith, below-top begun y (omega arith), most) in
      let is : here ≡ at here.level low = grind (arith, out, most) in
      let first : run (at (l + 0) t) y ≡ at here.level t =
      run-raised t begun y (omega arith) ∙ ap (raise t) is in
      let second : run (at here.level t) w ≡ at here.level t =
      grind (arith, g.leads here.level t (omega arith)) in
      let third : run (at here.level t) (60 ∷ z) ≡ at (l + 0) t =
      ap (λ s. run s (60 ∷ z)) (sym (ap (raise t) is))
      ∙ run-raised t here (60 ∷ z) (omega arith) ∙ ap (raise t) whole in
      grind (arith, run-append, first, second, third);
}
