-- A node's captured text and the one around it, and how the surroundings come back.
use Rattle.std.proofs.Common.{arith, ◌≡◌, ℕ, Bool, true, false, not, ◌&&◌, List, [], ◌∷◌, Option}
use Rattle.std.proofs.Common.{refl, ap, ◌∙◌}
use Rattle.std.specs.Prelude.{if◌then◌else◌}
use Rattle.std.proofs.lemmas.Bool.{and_from, and_parts}
use Rattle.md_base.specs.declared.event.Name.{Name}
use Rattle.md_base.specs.declared.event.Name.TheVariants as name_variants
use name_variants.{Definition, Resource, GfmFootnoteDefinition}
use name_variants.{GfmFootnoteDefinitionPrefix, HeadingSetextText}
use Rattle.md_base.proofs.Lies.{lie}
use Rattle.md_base.specs.Is.{is}
use Rattle.md_meaning.specs.Meaning.Layout.{Piece, laid_after, layout}
use Rattle.md_meaning.specs.Meaning.At.{Context}
use Rattle.md_steps.specs.Content.{Content, content_inside}
use Rattle.md_steps.specs.State.{State, NodeFacts, Scope, captures, outside}
use Rattle.md_steps.specs.Sides.{closes}
use Rattle.md_steps.specs.Steps.{first_or, others_of}
use Rattle.md_steps.specs.Claim.{is_laid}
use Rattle.md_steps.proofs.Standing.{is_set_aside, implies, follows, Facts}

-- ---- a node's captured text, and the one around it
pub record Texts (context : Context) (c : Content) (name : Name) (opened : List ℕ)
    (below : List (List ℕ)) (pieces : List Piece) (s : State) : Type 0 where
  pub outer : is_laid c ≡ true → (if captures name then first_or [] s.below else s.text)
      ≡ laid_after context.ending opened (if captures name then [] else pieces)
  pub inner : is_laid (content_inside c name) ≡ true → (if captures name then s.text else [])
      ≡ (if captures name then layout context.ending pieces else [])
  pub under : (if captures name then others_of s.below else s.below) ≡ below

pub texts : (context : Context) (c : Content) (name : Name) (opened : List ℕ)
    (below : List (List ℕ))
    (pieces : List Piece) (s : State) → Facts c name →
    (is_laid (content_inside c name) ≡ true →
    s.text ≡ laid_after context.ending (if captures name then [] else opened) pieces) →
    s.below ≡ (if captures name then opened ∷ below else below) →
    Texts context c name opened below pieces s
texts context c name opened below pieces s allows laid kept = record {
  outer = λ h. outer (captures name) refl laid kept h;
  inner = λ h. let said = laid h in grind arith;
  under = lower (captures name) kept;
}
  where
    outer : (b : Bool) → captures name ≡ b → (is_laid (content_inside c name) ≡ true →
        s.text ≡ laid_after context.ending (if b then [] else opened) pieces) →
        s.below ≡ (if b then opened ∷ below else below) → is_laid c ≡ true →
        (if b then first_or [] s.below else s.text)
        ≡ laid_after context.ending opened (if b then [] else pieces)
    outer true e l k h = ap (λ u. first_or [] u) k
    outer false e l k h =
        l (allows.laid (and_from _ _ h (ap (λ t. not t) e)))

    lower : (b : Bool) → s.below ≡ (if b then opened ∷ below else below) →
        (if b then others_of s.below else s.below) ≡ below
    lower true k = ap (λ u. others_of u) k
    lower false k = k

-- what isn't laid out isn't read either
unread : (context : Context) (left : State) (ended : Option Name) (facts : NodeFacts) (x y : List ℕ)
    (c : Content) (name : Name) →
    is_laid (content_inside c name) ≡ false → is_laid c ≡ true →
    closes context left ended facts x name ≡ closes context left ended facts y name
unread context left ended facts x y c Resource h k = refl
unread context left ended facts x y c Definition h k = refl
unread context left ended facts x y c GfmFootnoteDefinitionPrefix h k = refl
unread context left ended facts x y c _ h k = grind arith

pub read : (context : Context) (left : State) (ended : Option Name) (facts : NodeFacts)
    (x y : List ℕ)
    (c : Content) (name : Name) →
    is_laid c ≡ true → (is_laid (content_inside c name) ≡ true → x ≡ y) →
    closes context left ended facts x name ≡ closes context left ended facts y name
read context left ended facts x y c name h same =
    elim (is_laid (content_inside c name)) as (λ b. is_laid (content_inside c name) ≡ b →
    closes context left ended facts x name ≡ closes context left ended facts y name) [
      | true ↦ λ e. ap (λ t. closes context left ended facts t name) (same e)
      | false ↦ λ e. unread context left ended facts x y c name e h
    ] refl

-- these are captured, and laid out
abbrev pub Kept : Content → Name → Type 0
Kept c name = (captures name ≡ true) × (is_laid (content_inside c name) ≡ true)

pub heading-kept : (c : Content) (name : Name) → is HeadingSetextText name ≡ true → Kept c name
heading-kept c HeadingSetextText h = (refl, refl)
heading-kept c _ h = lie h

aside-captured : (c : Content) (name : Name) →
    implies (is_set_aside name) (captures name && is_laid (content_inside c name)) ≡ true
aside-captured c Resource = refl
aside-captured c _ = refl

pub aside-kept : (c : Content) (name : Name) → is_set_aside name ≡ true → Kept c name
aside-kept c name h = and_parts _ _ (follows (is_set_aside name) _ (aside-captured c name) h)

pub footnote-kept : (c : Content) (name : Name) → is GfmFootnoteDefinition name ≡ true → Kept c name
footnote-kept c GfmFootnoteDefinition h = (refl, refl)
footnote-kept c _ h = lie h

pub kept-text : (context : Context) (c : Content) (name : Name) (opened : List ℕ)
    (below : List (List ℕ))
    (pieces : List Piece) (s : State) → Texts context c name opened below pieces s → Kept c name →
    (if captures name then s.text else []) ≡ layout context.ending pieces
kept-text context c name opened below pieces s t kept =
    t.inner kept.1 ∙ ap (λ b. if b then layout context.ending pieces else []) kept.0

-- ---- the surroundings come back
pub record Back (b : Bool) (scope : Scope) (scopes : List Scope) (inner : Scope)
    (inners : List Scope) : Type 0 where
  pub one : (if b then first_or outside inners else inner) ≡ scope
  pub others : (if b then others_of inners else inners) ≡ scopes

pub back : (b : Bool) (scope new_scope : Scope) (scopes : List Scope) (inner : Scope)
    (inners : List Scope) →
    inners ≡ (if b then scope ∷ scopes else scopes) →
    inner ≡ (if b then new_scope else scope) →
    Back b scope scopes inner inners
back true scope new_scope scopes inner inners kept is =
    record { one = ap (λ s. first_or outside s) kept; others = ap (λ s. others_of s) kept }
back false scope new_scope scopes inner inners kept is = record { one = is; others = kept }
