-- Where underlines stand on the spines of the grammar, and in its documents: a heading that is
-- printed at its underline is printed once.
use Rattle.std.proofs.Common.{arith, ◌≡◌, ℕ, zero, suc, Bool, true, false, ◌&&◌, cond, List, []}
use Rattle.std.proofs.Common.{◌∷◌, ◌++◌, refl, sym, ap, subst, ◌∙◌, Option, None}
use Rattle.std.specs.Prelude.{replicate}
use Rattle.std.specs.List.{list_all}
use Rattle.md_base.proofs.Lies.{lie}
use Rattle.md_base.specs.declared.event.Name.{Name}
use Rattle.md_base.specs.declared.event.Name.TheVariants as name_variants
use name_variants.{SpaceOrTab}
use Rattle.md_base.specs.Tree.{Forest, Empty, Node}
use Rattle.md_base.specs.NameTests.{is_transparent}
use Rattle.md_base.specs.Children.{spine_names}
use Rattle.md_pattern.specs.declared.kinds.Symbol.{Symbol}
use Rattle.md_pattern.specs.declared.kinds.Symbol.TheVariants.{SetextText, SetextUnderline}
use Rattle.md_pattern.specs.declared.kinds.Symbol.TheVariants.{LineEnding}
use Rattle.md_pattern.specs.declared.kinds.Role.{Role}
use Rattle.md_pattern.specs.declared.kinds.Role.TheVariants as role
use Rattle.md_pattern.specs.Standing.{standing_of}
use Rattle.md_pattern.specs.Spine.{spine, shown, IsTail, IsGrouped, Matches}
use Rattle.md_pattern.specs.Shape.{AreShaped, IsStanding, inner_role}
use Rattle.md_tree.specs.Grammar.{IsGrammatical}
use Rattle.md_content.specs.Underlined.{is_underline, waits_past, waits_after, IsUnderlined}
use Rattle.md_content.proofs.SymbolNames.{is_through, transparent}
use Rattle.md_content.proofs.Tails.{is_lone, each-tail}
use Rattle.md_content.proofs.Stands.{spine-stands, names-stand, none_left}
use Rattle.md_pattern.specs.declared.kinds.Standing.{Standing}
use Rattle.md_pattern.specs.declared.kinds.Standing.TheVariants.{Through, Space, Solid, Mdx}
use Rattle.md_content.proofs.Letters.{fits-all}

-- a heading waits for its underline, after a symbol
abbrev pub next_waits : Bool → Symbol → Bool
next_waits waits LineEnding = waits
next_waits waits SetextText = true
next_waits waits _ = false

-- an underline stands only where a heading waits for it
abbrev pub may_follow : Bool → Symbol → Bool
may_follow waits SetextUnderline = waits
may_follow waits _ = true

abbrev pub underlined : Bool → List Symbol → Bool
underlined waits [] = true
underlined waits (s ∷ symbols) = may_follow waits s && underlined (next_waits waits s) symbols

abbrev pub waits_after_symbols : Bool → List Symbol → Bool
waits_after_symbols waits [] = waits
waits_after_symbols waits (s ∷ symbols) = waits_after_symbols (next_waits waits s) symbols

pub underlined-split : (waits : Bool) (xs ys : List Symbol) → underlined waits (xs ++ ys) ≡ true →
    (underlined waits xs ≡ true) × (underlined (waits_after_symbols waits xs) ys ≡ true)
underlined-split waits [] ys h = (refl, h)
underlined-split waits (x ∷ xs) ys h = grind (arith, underlined-split (next_waits waits x) xs)

pub waits-append : (waits : Bool) (xs ys : List Symbol) →
    waits_after_symbols waits (xs ++ ys) ≡ waits_after_symbols (waits_after_symbols waits xs) ys
waits-append waits [] ys = refl
waits-append waits (x ∷ xs) ys = waits-append (next_waits waits x) xs ys

endings-underlined : (endings : ℕ) (others : List Symbol) → underlined false others ≡ true →
    underlined true ((replicate endings LineEnding ++ SetextUnderline ∷ []) ++ others) ≡ true
endings-underlined zero others h = h
endings-underlined (suc endings) others h = endings-underlined endings others h

abbrev no_underline : Symbol → Bool
no_underline SetextUnderline = false
no_underline _ = true

tail-underlined : (others : List Symbol) → ((waits : Bool) → underlined waits others ≡ true) →
    (first : Symbol) (tail : List Symbol) → IsTail first tail → no_underline first ≡ true →
    (waits : Bool) → underlined waits (first ∷ tail ++ others) ≡ true
tail-underlined others h =
    each-tail (λ first tail. no_underline first ≡ true → (waits : Bool) →
    underlined waits (first ∷ tail ++ others) ≡ true)
    (λ may waits. h false) (λ may waits. h false) (λ may waits. h false)
    (λ endings may waits. endings-underlined endings others (h false)) alone
  where
    alone : (first : Symbol) → is_lone first ≡ true → no_underline first ≡ true → (waits : Bool) →
        underlined waits (first ∷ others) ≡ true
    alone SetextText lone may waits = lie lone
    alone SetextUnderline lone may waits = lie may
    alone LineEnding lone may waits = h waits
    alone _ lone may waits = h false

grouped-underlined : (firsts spine : List Symbol) → IsGrouped firsts spine →
    list_all no_underline firsts ≡ true →
    (waits : Bool) → underlined waits spine ≡ true
grouped-underlined [] spine g h waits = subst (λ s. underlined waits s ≡ true) (sym g) refl
grouped-underlined (first ∷ firsts) spine g h waits =
    grind (arith, tail-underlined, grouped-underlined firsts)

-- on each spine of the grammar underlines stand after their headings
pub matches-underlined : (r : Role) (spine : List Symbol) → Matches r spine → (waits : Bool) →
    underlined waits spine ≡ true
matches-underlined r spine m waits = grind (arith, grouped-underlined, fits-all)

-- a heading waits after a node as after what it shows
node-waits :
    (name : Name) (children : Forest) (around : Role) (before : Option Symbol) (waits : Bool) →
    IsStanding (standing_of name) around before children →
    waits_after waits children ≡ waits_after_symbols waits (spine children)
    → cond (is_transparent name) (waits_after waits children) (waits_past waits name)
    ≡ waits_after_symbols waits (shown (standing_of name) (spine children))
node-waits SpaceOrTab children around before waits is same = ap (λ f. waits_after waits f) is
node-waits _ children around before waits is same = grind arith

-- and after some nodes as after their spine
same-waits : (forest : Forest) (around : Role) (before : Option Symbol) (waits : Bool) →
    AreShaped forest around before →
    waits_after waits forest ≡ waits_after_symbols waits (spine forest)
same-waits Empty around before waits all = refl
same-waits (Node name start end children rest) around before waits all =
    rw (
      node-waits name children around before waits all.0.1 (same-waits children _ _ waits all.1),
      same-waits rest _ _ _ all.2,
      waits-append,
    ) refl

awaited : (name : Name) (children : Forest) (around inner : Role)
    (before first : Option Symbol) (waits : Bool) →
    IsStanding (standing_of name) around before children → AreShaped children inner first →
    underlined waits (shown (standing_of name) (spine children)) ≡ true → is_underline name ≡ true
    → (waits ≡ true) × (spine_names children ≡ [])
awaited name children around inner before first waits is all h underline =
    grind (arith, names-stand, none_left, spine-stands)

-- the spine below a node
below-underlined :
    (standing : Standing) (children : Forest) (around : Role) (before : Option Symbol)
    (waits : Bool) → IsStanding standing around before children →
    underlined waits (shown standing (spine children)) ≡ true →
    underlined (cond (is_through standing) waits false) (spine children) ≡ true
below-underlined Through children around before waits is h = h
below-underlined Space children around before waits is h = ap (λ f. underlined waits (spine f)) is
below-underlined (Solid symbol usual reading) children around before waits is h =
    matches-underlined (inner_role (Solid symbol usual reading) around before) (spine children) is
    false
below-underlined Mdx children around before waits is h = absurd is

-- nodes whose spine has its underlines where headings wait have them so at any depth
nodes-underlined : (forest : Forest) (around : Role) (before : Option Symbol) (waits : Bool) →
    AreShaped forest around before → underlined waits (spine forest) ≡ true →
    IsUnderlined waits forest
nodes-underlined Empty around before waits all h = tt
nodes-underlined (Node name start end children rest) around before waits all h =
    let parts = underlined-split waits (shown (standing_of name) (spine children)) (spine rest) h in
    let here =
    node-waits name children around before waits all.0.1 (same-waits children _ _ waits all.1) in (
      awaited name children around _ before _ waits all.0.1 all.1 parts.0,
      nodes-underlined children _ _ (cond (is_transparent name) waits false) all.1
          (ap (λ t. underlined (cond t waits false) (spine children)) (transparent name)
          ∙ below-underlined (standing_of name) children around before waits all.0.1 parts.0),
      nodes-underlined rest _ _
          (cond (is_transparent name) (waits_after waits children) (waits_past waits name)) all.2
          (subst (λ b. underlined b (spine rest) ≡ true) (sym here) parts.1),
    )

pub grammatical-underlined : (bytes : List ℕ) (names : List (List ℕ × List ℕ)) (forest : Forest) →
    IsGrammatical bytes names forest → IsUnderlined false forest
grammatical-underlined bytes names forest grammatical =
    nodes-underlined forest role.Flow None false grammatical.shape.0
    (matches-underlined role.Flow (spine forest) grammatical.shape.1 false)
