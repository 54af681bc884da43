-- A node, its content and what follows it: what is allowed there, from the spine that it belongs
-- to.
use Rattle.std.proofs.Common.{arith, ◌≡◌, Bool, true, false, ◌||◌, cond, Option, Some, is_some}
use Rattle.std.proofs.Common.{List, [], ◌∷◌, ◌++◌, refl, ap, ◌∙◌}
use Rattle.std.specs.List.{list_all}
use Rattle.std.proofs.lemmas.Bool.{and_parts}
use Rattle.md_base.specs.declared.event.Name.{Name}
use Rattle.md_pattern.specs.declared.kinds.Symbol.{Symbol}
use Rattle.md_pattern.specs.declared.kinds.Role.{Role}
use Rattle.md_pattern.specs.declared.kinds.Role.TheVariants as role
use Rattle.md_pattern.specs.declared.kinds.Standing.{Standing}
use Rattle.md_pattern.specs.declared.kinds.Standing.TheVariants.{Through, Space, Solid, Mdx}
use Rattle.md_base.specs.Tree.{Forest, Empty, Node}
use Rattle.md_pattern.specs.Standing.{standing_of}
use Rattle.md_pattern.specs.Pattern.{pattern_of}
use Rattle.md_pattern.specs.Spine.{spine, shown}
use Rattle.md_pattern.specs.Shape.{AreShaped, IsStanding, role_for, inner_before, last_symbol}
use Rattle.md_base.specs.NameTests.{is_transparent}
use Rattle.md_content.specs.Built.{Content, may_stand, content_of, content_inside, content_after}
use Rattle.md_content.specs.Built.{content_after_node}
use Rattle.md_content.proofs.SymbolNames.{is_through}
use Rattle.md_content.proofs.Symbols.{may_show, past, admits, pattern_admits, roles_for, implies}
use Rattle.md_content.proofs.Symbols.{Behaves, behaves}
use Rattle.md_content.proofs.Admitted.{shown_earlier, matches_admitted}

-- what may stand after some symbols
abbrev pub run : Content → List Symbol → Content
run content [] = content
run content (symbol ∷ symbols) = run (past content symbol) symbols

run-append : (content : Content) (symbols others : List Symbol) →
    run content (symbols ++ others) ≡ run (run content symbols) others
run-append content [] others = refl
run-append content (symbol ∷ symbols) others = run-append (past content symbol) symbols others

admits-split : (before : Option Symbol) (content : Content) (symbols others : List Symbol) →
    admits (is_some before) content (symbols ++ others) ≡ true →
    (admits (is_some before) content symbols ≡ true)
    × (admits (is_some (last_symbol before symbols)) (run content symbols) others ≡ true)
admits-split before content [] others h = (refl, h)
admits-split before content (symbol ∷ symbols) others h =
    grind (arith, and_parts, admits-split (Some symbol) (past content symbol) symbols)

node_after :
    (standing : Standing) (name : Name) (children : Forest) (around : Role) (before : Option Symbol)
    (content : Content) → Behaves standing name → IsStanding standing around before children →
    content_after content children ≡ run content (spine children) →
    content_after_node content name children ≡ run content (shown standing (spine children))
node_after standing name children around before content says stands again = grind arith

-- what may stand after nodes is what may stand after their spine
pub after_spine : (forest : Forest) (around : Role) (before : Option Symbol) (content : Content) →
    AreShaped forest around before → content_after content forest ≡ run content (spine forest)
after_spine Empty around before content shaped = refl
after_spine (Node name start end children rest) around before content shaped =
    rw (
      node_after (standing_of name) name children around before content (behaves name) shaped.0.1
          (after_spine children _ _ content shaped.1),
      after_spine rest _ _ _ shaped.2,
      run-append,
    ) refl

-- what holds of all roles that a name may have holds of its role
pub role_listed : (test : Role → Bool) (around : Role) (before : Option Symbol) (usual : Role) →
    list_all test (roles_for (is_some before) usual) ≡ true →
    test (role_for around before usual) ≡ true
role_listed test around before usual h = grind arith

-- a node may stand there, its children in it, and others after it
pub record Spot (standing : Standing) (name : Name) (children : Forest) (before : Option Symbol)
    (content : Content) (others : List Symbol) : Type 0 where
  pub stands : (is_transparent name || may_stand content name) ≡ true
  pub inside : admits (is_some (inner_before standing before)) (content_inside content name)
      (spine children) ≡ true
  pub after : admits (is_some (last_symbol before (shown standing (spine children))))
      (content_after_node content name children) others ≡ true

follows : (test holds : Bool) → implies test holds ≡ true → test ≡ true → holds ≡ true
follows test holds h t = grind arith

spot_here :
    (standing : Standing) (name : Name) (children : Forest) (around : Role) (before : Option Symbol)
    (content : Content) (others : List Symbol) → Behaves standing name →
    IsStanding standing around before children →
    admits (is_some before) content (shown standing (spine children) ++ others) ≡ true →
    ((is_through standing || may_stand content name) ≡ true)
    × (admits (is_some (inner_before standing before))
    (cond (is_through standing) content (content_of name content)) (spine children) ≡ true)
spot_here Through name children around before content others says stands h =
    (refl, (admits-split before content (spine children) others h).0)
spot_here Space name children around before content others says stands h = grind arith
spot_here (Solid symbol usual reading) name children around before content others says stands h =
    let may = (and_parts _ _ h).0 in (
      says.may content ∙ shown_earlier (is_some before) content symbol may,
      matches_admitted (role_for around before usual) (spine children)
          (content_of name content) stands
          (role_listed (λ role. pattern_admits (pattern_of role) false (content_of name content))
          around before usual (follows (may_show (is_some before) content symbol) _
          (says.patterns (is_some before) content) may)),
    )
spot_here Mdx name children around before content others says stands h = absurd stands

pub spot : (standing : Standing) (name : Name) (children : Forest) (around : Role)
    (before : Option Symbol) (content : Content) (others : List Symbol) → Behaves standing name →
    IsStanding standing around before children →
    content_after content children ≡ run content (spine children) →
    admits (is_some before) content (shown standing (spine children) ++ others) ≡ true →
    Spot standing name children before content others
spot standing name children around before content others says stands after h =
    let here = spot_here standing name children around before content others says stands h in
    record {
      stands = ap (λ t. t || may_stand content name) says.through ∙ here.0;
      inside =
          ap (λ t. admits (is_some (inner_before standing before))
          (cond t content (content_of name content)) (spine children)) says.through ∙ here.1;
      after = rw (node_after standing name children around before content says stands after)
          (admits-split before content (shown standing (spine children)) others h).1;
    }
