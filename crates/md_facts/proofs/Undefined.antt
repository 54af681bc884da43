-- No definition stands in a definition.
use Rattle.std.proofs.Common.{arith, ◌≡◌, ℕ, Bool, true, false, ◌&&◌, ◌||◌, not, List, [], ◌∷◌}
use Rattle.std.proofs.Common.{◌++◌, refl, ap, ap₂, ◌∙◌, inl, inr}
use Rattle.std.proofs.lemmas.Bool.{cases_Bool}
use Rattle.std.specs.Prelude.{map, if◌then◌else◌}
use Rattle.std.proofs.lemmas.List.{map-append}
use Rattle.md_base.specs.declared.event.Name.{Name}
use Rattle.md_base.specs.declared.event.Name.TheVariants.{Definition}
use Rattle.md_base.specs.declared.event.Point.{Point}
use Rattle.md_base.specs.Is.{is}
use Rattle.md_base.specs.NameTests.{is_transparent}
use Rattle.md_base.specs.Tree.{Forest, Empty, Node}
use Rattle.md_meaning.specs.Meaning.At.{Defined, Context, identifier_of}
use Rattle.md_content.specs.Built.{Content, Sources, Strings, Nothing, IsBuilt, content_inside}
use Rattle.md_content.specs.Built.{content_past, content_after, content_after_node, may_stand}
use Rattle.md_content.specs.References.{Everywhere, defined_in}
use Rattle.md_steps.specs.Steps.{is_passed}
use Rattle.md_steps.specs.Run.{defined}
use Rattle.md_content.proofs.Symbols.{implies}

-- no definition is among some nodes, at any depth
abbrev pub Free : Forest → Type 0
Free Empty = Unit {0}
Free (Node name start end children rest) = (is_passed name ≡ false) × Free children × Free rest

abbrev pub IsFreeInside : Name → Point → Point → Forest → Type 0
IsFreeInside name start end children = is_passed name ≡ true → Free children

-- ---- by what may stand where

abbrev low : Content → Bool
low Sources = true
low Strings = true
low Nothing = true
low _ = false

abbrev keeps : Content → Name → Bool
keeps c n =
    implies (is_transparent n || may_stand c n) (not (is_passed n) && low (content_inside c n))

keeps-low : (c : Content) (n : Name) → low c ≡ true → keeps c n ≡ true
keeps-low c n h = grind arith

past-low : (c : Content) (n : Name) → low c ≡ true → content_past c n ≡ c
past-low c n h = grind arith

pick : (b : Bool) (c other : Content) → other ≡ c → (if b then c else other) ≡ c
pick b c other e = grind arith

after-low : (c : Content) → low c ≡ true → (forest : Forest) → content_after c forest ≡ c
after-low c h Empty = refl
after-low c h (Node name start end children rest) =
    ap (λ x. content_after (if is_transparent name then x else content_past c name) rest)
    (after-low c h children) ∙ ap (λ x. content_after x rest)
    (pick (is_transparent name) c (content_past c name) (past-low c name h)) ∙ after-low c h rest

node-low : (c : Content) (name : Name) (children : Forest) → low c ≡ true →
    content_after_node c name children ≡ c
node-low c name children h = grind (arith, after-low, pick, past-low)

built-free : (bytes : List ℕ) (c : Content) (forest : Forest) → low c ≡ true →
    IsBuilt bytes c forest → Free forest
built-free bytes c Empty h built = tt
built-free bytes c (Node name start end children rest) h built =
    let inside = built-free bytes (content_inside c name) children in
    let later = built-free bytes (content_after_node c name children) rest in
    grind (arith, keeps-low, node-low, inside, later)

pub built-frees : (bytes : List ℕ) (c : Content) (forest : Forest) → IsBuilt bytes c forest →
    Everywhere IsFreeInside forest
built-frees bytes c Empty built = tt
built-frees bytes c (Node name start end children rest) built =
    let inner = built-frees bytes (content_inside c name) children built.2 in
    let later = built-frees bytes (content_after_node c name children) rest built.3 in
    let own = built-free bytes (content_inside c name) children in
    (grind (arith, own, built.2), inner, later)

-- ---- the identifiers of the definitions

passed_is : (name : Name) → is_passed name ≡ is Definition name
passed_is name = grind arith

none-defined : (bytes : List ℕ) (forest : Forest) → Free forest → defined_in bytes forest ≡ []
none-defined bytes Empty free = refl
none-defined bytes (Node name start end children rest) free =
    let inside = none-defined bytes children free.1 in
    let later = none-defined bytes rest free.2 in
    grind (arith, passed_is, inside, later)

pub identifiers-defined : (context : Context) (forest : Forest) → Everywhere IsFreeInside forest →
    map (λ (d : Defined). d.identifier) (defined context forest) ≡ defined_in context.bytes forest
identifiers-defined context Empty frees = refl
identifiers-defined context (Node name start end children rest) frees =
    let later = identifiers-defined context rest frees.2 in
    rw (← passed_is name) (elim (cases_Bool (is_passed name)) [
      | inl passed ↦ rw passed (rw (none-defined context.bytes children (frees.0 passed))
          (ap (λ xs. identifier_of context.bytes children ∷ xs) later))
      | inr other ↦ rw other (map-append (λ (d : Defined). d.identifier) (defined context children)
          (defined context rest) ∙ ap₂ (λ xs ys. xs ++ ys)
          (identifiers-defined context children frees.1) later)
    ])
