-- A tape to which an entry is added.
use Rattle.std.proofs.Common.{◌≡◌, ℕ, ◌+◌, ◌-◌, ◌<◌, List, [], ◌∷◌, ◌++◌, Bool, true, false}
use Rattle.std.proofs.Common.{refl, sym, subst, arith}
use Rattle.std.specs.Prelude.{if◌then◌else◌}
use Rattle.std.proofs.lemmas.Bool.{and_parts, eqb-true, eq-eqb, lt-ltb}
use Rattle.std.specs.Cmp.Derive.{both_true}
use Rattle.md_blocks.specs.declared.block.Block.{Block}
use Rattle.md_blocks.specs.declared.block.Block.TheVariants.{Exit}
use Rattle.md_blocks.specs.declared.block.ContainerKind.{ContainerKind}
use Rattle.md_blocks.specs.Tape.{leads, enters, exits}

-- of three cases, each of which implies another one
cases : (is_first is_second : Bool) (a b c a' b' c' : Bool) → (a ≡ true → a' ≡ true) →
    (b ≡ true → b' ≡ true) → (c ≡ true → c' ≡ true) →
    (if is_first then a else (if is_second then b else c)) ≡ true →
    (if is_first then a' else (if is_second then b' else c')) ≡ true
cases true is_second a b c a' b' c' first second third is = first is
cases false true a b c a' b' c' first second third is = second is
cases false false a b c a' b' c' first second third is = third is

-- appending blocks that start at the depth where the first ones end
pub leads-append : (from : ℕ) (xs ys : List Block) (middle to : ℕ) → leads from xs middle ≡ true →
    leads middle ys to ≡ true → leads from (xs ++ ys) to ≡ true
unfolding leads
leads-append from [] ys middle to first rest =
    subst (λ n. leads n ys to ≡ true) (sym (eqb-true from middle first)) rest
leads-append from (x ∷ xs) ys middle to first rest =
    cases (enters x) (exits x) _ _ _ _ _ _
    (λ entered. let parts = and_parts _ _ entered in
    both_true parts.0 (leads-append (from + 1) xs ys middle to parts.1 rest))
    (λ exited. let parts = and_parts _ _ exited in
    both_true parts.0 (leads-append (from - 1) xs ys middle to parts.1 rest))
    (λ stayed. leads-append from xs ys middle to stayed rest)
    first

-- a container is entered
pub entered : (tape later : List Block) (block : Block) (depth deeper : ℕ) →
    later ≡ tape ++ block ∷ [] → deeper ≡ depth + 1 → depth < 96 → enters block ≡ true →
    leads 0 tape depth ≡ true → leads 0 later deeper ≡ true
unfolding leads
entered tape later block depth deeper is one shallow begins first =
    rw is (leads-append 0 tape (block ∷ []) depth deeper first
    (rw begins (both_true (lt-ltb depth 96 shallow) (eq-eqb (depth + 1) deeper (sym one)))))

-- a container is exited
pub exited : (tape later : List Block) (kind : ContainerKind) (is_empty : Bool)
    (at depth less : ℕ) → later ≡ tape ++ Exit kind is_empty at ∷ [] → depth ≡ less + 1 →
    leads 0 tape depth ≡ true → leads 0 later less ≡ true
unfolding leads
exited tape later kind is_empty at depth less is one first =
    rw is (leads-append 0 tape (Exit kind is_empty at ∷ []) depth less first
    (both_true (lt-ltb 0 depth (omega arith)) (eq-eqb (depth - 1) less (omega arith))))

-- the tape gets an entry that neither begins nor ends a container, or memory runs out
pub put : (tape later : List Block) (block : Block) (is_put : Bool) (depth : ℕ) →
    later ≡ (if is_put then tape ++ block ∷ [] else tape) → enters block ≡ false →
    exits block ≡ false → leads 0 tape depth ≡ true → leads 0 later depth ≡ true
unfolding leads
put tape later block true depth is enters_none exits_none first =
    rw is (leads-append 0 tape (block ∷ []) depth depth first
    (rw enters_none (rw exits_none (eq-eqb depth depth refl))))
put tape later block false depth is enters_none exits_none first = rw is first

-- nothing was entered yet
pub empty : (tape : List Block) (depth : ℕ) → tape ≡ [] → depth ≡ 0 → leads 0 tape depth ≡ true
unfolding leads
empty tape depth none zero-deep = rw none (eq-eqb 0 depth (sym zero-deep))
