-- Step by step: a run from a state, by a run from the state after its first step.
use Rattle.std.proofs.Common.{◌≡◌, ℕ, ◌==◌, Bool, true, false, cond, List, [], ◌∷◌, ◌++◌, map, refl}
use Rattle.std.proofs.Common.{ap, ◌∙◌, arith}
use Rattle.std.proofs.lemmas.Bool.{eqb-false}
use Rattle.md_text.specs.References.{is_escaped, read_back}
use Rattle.md_text.proofs.EncodeLaws.{read_back-other}
use Rattle.md_safe.specs.Token.{Token, Character, TokenAttribute}
use Rattle.md_safe.specs.Tag.{Tag}
use Rattle.md_safe.specs.TokenizerStates.{State, Data, AttributeValueDoubleQuoted, Goes, Rcdata}
use Rattle.md_safe.specs.Tokenizer.{step, IsRun}
use Rattle.md_safe.proofs.EscapedCases.{IsPlain, by_escaped}
use Rattle.md_safe.proofs.Joining.{run-back}

-- the branches of a test
pub past : {A : Type 0} {c : Bool} {y z : A} (x : A) → c ≡ false → y ≡ z → cond c x y ≡ z
past {y = y} x e f = ap (λ c. cond c x y) e ∙ f

pub here : {A : Type 0} {c : Bool} {x z : A} (y : A) → c ≡ true → x ≡ z → cond c x y ≡ z
here {x = x} y e f = ap (λ c. cond c x y) e ∙ f

-- a step that emits nothing
pub quiet : {state next : State} {input rest : List ℕ} {t : List Token} →
    step state input ≡ Goes [] next rest →
    IsRun next rest t → IsRun state input t
quiet e h = run-back _ _ _ _ [] _ e h

-- a step that emits one token
pub loud : {state next : State} {input rest : List ℕ} {t : List Token} (x : Token) →
    step state input ≡ Goes (x ∷ []) next rest → IsRun next rest t → IsRun state input (x ∷ t)
loud x e h = run-back _ _ _ _ (x ∷ []) _ e h

-- the same run, of what is equal
pub along : (state : State) (x y : List ℕ) (s t : List Token) → x ≡ y → s ≡ t →
    IsRun state x s → IsRun state y t
along state x y s t e f h = grind arith

pub plain-ne : (b : ℕ) → IsPlain b → b ≡ 38 → ⊥
plain-ne b p = eqb-false b 38 p.no_and

pub plain_step : (b : ℕ) (rest : List ℕ) → (b == 38) ≡ false → (b == 60) ≡ false →
    step Data (b ∷ rest) ≡ Goes (Character b ∷ []) Data rest
plain_step b rest e38 e60 = simp (e38, e60)

-- ---- a text in the RCDATA state

abbrev RcdataRuns : List ℕ → Type 0
RcdataRuns x = (r : List ℕ) (t : List Token) → IsRun Rcdata r t →
    IsRun Rcdata (x ++ r) (map Character (read_back x) ++ t)

rcdata_step : (b : ℕ) (rest : List ℕ) → IsPlain b →
    step Rcdata (b ∷ rest) ≡ Goes (Character b ∷ []) Rcdata rest
rcdata_step b rest p = simp (p.no_and, p.no_less, p.no_nul)

rcdata-plain : (b : ℕ) (rest : List ℕ) → IsPlain b → RcdataRuns rest → RcdataRuns (b ∷ rest)
rcdata-plain b rest p later r t h = grind (arith, read_back-other, plain-ne, loud, rcdata_step)

pub rcdata-runs : (x : List ℕ) → is_escaped x ≡ true → RcdataRuns x
rcdata-runs x e =
    by_escaped RcdataRuns (λ r t h. h) rcdata-plain
    (λ rest later r t h. quiet refl (quiet refl (loud (Character 38) refl (later r t h))))
    (λ rest later r t h. quiet refl (quiet refl (loud (Character 34) refl (later r t h))))
    (λ rest later r t h. quiet refl (quiet refl (loud (Character 60) refl (later r t h))))
    (λ rest later r t h. quiet refl (quiet refl (loud (Character 62) refl (later r t h))))
    x e

-- ---- a value

-- a start tag or an end tag, with its name and attributes so far
abbrev pub tag_with : Bool → List ℕ → List TokenAttribute → Tag
tag_with is_end name attributes = record { is_end = is_end; name = name; attributes = attributes }

abbrev pub attribute : List ℕ → List ℕ → TokenAttribute
attribute name value = record { name = name; value = value }

-- where a value is read, up to here
abbrev pub AtValue : List ℕ → List TokenAttribute → List ℕ → List ℕ → State
AtValue tag earlier name value =
    AttributeValueDoubleQuoted (tag_with false tag (attribute name value ∷ earlier))
