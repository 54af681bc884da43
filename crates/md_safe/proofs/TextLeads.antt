-- Step by step: the way to the data state from a state, by the way from the state after its first
-- step.
use Rattle.std.proofs.Common.{arith, ◌≡◌, ℕ, List, [], ◌∷◌, ◌++◌, map, refl, append-nil}
use Rattle.std.proofs.Common.{append_assoc, true}
use Rattle.md_text.specs.References.{is_escaped, read_back}
use Rattle.md_text.proofs.EncodeLaws.{read_back-other}
use Rattle.md_safe.specs.Token.{Token, Character, TokenAttribute}
use Rattle.md_safe.specs.TokenizerStates.{State, Data, Goes}
use Rattle.md_safe.specs.Tokenizer.{step, IsRun}
use Rattle.md_safe.proofs.EscapedCases.{IsPlain, by_escaped}
use Rattle.md_safe.proofs.Joining.{runs-on, leads-back}
use Rattle.md_safe.proofs.Steps.{AtValue, plain-ne, plain_step}
use Rattle.md_safe.specs.Tokenizes.{Tokenizes}

-- with the rest of the input first
abbrev pub To : List ℕ → State → List ℕ → List Token → Type 0
To left state input tokens = Tokenizes state input tokens left

pub arrived : (left : List ℕ) → To left Data left []
arrived left = record { count = 0; goes = refl }

-- a step that emits nothing
pub quiet : {left : List ℕ} {state next : State} {input rest : List ℕ} {t : List Token} →
    step state input ≡ Goes [] next rest → To left next rest t → To left state input t
quiet {left} e h = leads-back left _ _ _ _ [] _ e h

-- a step that emits one token
pub loud : {left : List ℕ} {state next : State} {input rest : List ℕ} {t : List Token} (x : Token) →
    step state input ≡ Goes (x ∷ []) next rest → To left next rest t → To left state input (x ∷ t)
loud {left} x e h = leads-back left _ _ _ _ (x ∷ []) _ e h

-- the same way, of what is equal
pub along : {left : List ℕ} (state : State) (x y : List ℕ) (s t : List Token) → x ≡ y → s ≡ t →
    To left state x s → To left state y t
along {left = left} state x y s t e f h = grind arith

-- ---- a text

abbrev TextLeads : List ℕ → List ℕ → Type 0
TextLeads left x = (r : List ℕ) (t : List Token) → To left Data r t →
    To left Data (x ++ r) (map Character (read_back x) ++ t)

plain-leads : (left : List ℕ) (b : ℕ) (rest : List ℕ) → IsPlain b → TextLeads left rest →
    TextLeads left (b ∷ rest)
plain-leads left b rest p later r t h = grind (arith, read_back-other, plain-ne, loud, plain_step)

pub text-leads : (left x : List ℕ) → is_escaped x ≡ true → TextLeads left x
text-leads left x e = by_escaped _ (λ r t h. h) (plain-leads left) (λ rest later r t h. quiet refl
    (quiet refl (loud _ refl (later r t h)))) (λ rest later r t h. quiet refl
    (quiet refl (loud _ refl (later r t h)))) (λ rest later r t h. quiet refl
    (quiet refl (loud _ refl (later r t h)))) (λ rest later r t h. quiet refl
    (quiet refl (loud _ refl (later r t h)))) x e

-- and so a run of what follows
pub text-runs : (x : List ℕ) → is_escaped x ≡ true → (r : List ℕ) (t : List Token) →
    IsRun Data r t → IsRun Data (x ++ r) (map Character (read_back x) ++ t)
text-runs x e r t h = rw (append-nil (map Character (read_back x))) at
    (runs-on Data (x ++ r) r _ t (text-leads r x e r [] (arrived r)) h)

-- ---- a value

abbrev ValueLeads : List ℕ → List ℕ → Type 0
ValueLeads left x = (tag : List ℕ) (earlier : List TokenAttribute) (name value : List ℕ)
    (r : List ℕ) (t : List Token) → To left (AtValue tag earlier name (value ++ read_back x)) r t →
    To left (AtValue tag earlier name value) (x ++ r) t

value-plain : (left : List ℕ) (b : ℕ) (rest : List ℕ) → IsPlain b → ValueLeads left rest →
    ValueLeads left (b ∷ rest)
value-plain left b rest p later tag earlier name value r t h = quiet (grind arith) (later tag
    earlier name (value ++ (b ∷ [])) r t (grind (arith, append_assoc, read_back-other, plain-ne)))

pub value-leads : (left x : List ℕ) → is_escaped x ≡ true → ValueLeads left x
value-leads left x e = by_escaped _ (λ tag earlier name value r t h. rw append-nil at h)
    (value-plain left)
    (λ rest later tag earlier name value r t h. quiet refl (quiet refl (quiet refl
    (later tag earlier name (value ++ (38 ∷ [])) r t (rw append_assoc h)))))
    (λ rest later tag earlier name value r t h. quiet refl (quiet refl (quiet refl
    (later tag earlier name (value ++ (34 ∷ [])) r t (rw append_assoc h)))))
    (λ rest later tag earlier name value r t h. quiet refl (quiet refl (quiet refl
    (later tag earlier name (value ++ (60 ∷ [])) r t (rw append_assoc h)))))
    (λ rest later tag earlier name value r t h. quiet refl (quiet refl (quiet refl
    (later tag earlier name (value ++ (62 ∷ [])) r t (rw append_assoc h))))) x e
