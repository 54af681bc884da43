-- Each document of the grammar fits: the content of each place allows its nodes.
use Rattle.std.proofs.Common.{◌≡◌, Bool, true, ◌||◌, Option, None, List, [], ◌∷◌, ◌++◌, refl, sym}
use Rattle.std.proofs.Common.{ap, ◌∙◌, subst, if◌then◌else◌, arith}
use Rattle.std.proofs.lemmas.Bool.{not_from_false, false_from_ne_true, and_parts, and_from}
use Rattle.md_base.specs.declared.event.Name.{Name}
use Rattle.md_base.specs.Tree.{Forest, Empty, Node}
use Rattle.md_base.specs.NameTests.{is_transparent}
use Rattle.md_base.proofs.Lies.{lie}
use Rattle.md_pattern.specs.declared.kinds.Symbol.{Symbol}
use Rattle.md_pattern.specs.declared.kinds.Role.{Role}
use Rattle.md_pattern.specs.declared.kinds.Role.TheVariants as role
use Rattle.md_pattern.specs.declared.kinds.Standing.{Standing}
use Rattle.md_pattern.specs.declared.kinds.Standing.TheVariants.{Through, Space, Solid, Mdx}
use Rattle.md_pattern.specs.Standing.{standing_of}
use Rattle.md_pattern.specs.Spine.{spine, shown}
use Rattle.md_pattern.specs.Shape.{AreShaped, IsStanding, role_for, inner_role, IsShaped}
use Rattle.md_steps.specs.Content.{Content, Blocks, Fits, is_childless, may_stand, content_of}
use Rattle.md_steps.specs.Content.{content_inside, content_past, content_after, content_after_node}
use Rattle.md_content.proofs.SymbolNames.{is_through, name_for, transparent}
use Rattle.md_steps.proofs.ContentSymbols.{admits, group_of, group_in, may-same, group-same}
use Rattle.md_steps.proofs.Staying.{node-same, past-as}
use Rattle.md_steps.proofs.RoleContents.{matches-admitted}

role-group : (around : Role) (before : Option Symbol) (usual : Role) →
    group_of (role_for around before usual) ≡ group_of usual
role-group around before usual = grind arith

-- ---- a run of symbols
abbrev run : Content → List Symbol → Content
run content [] = content
run content (seen ∷ symbols) = run (content_past content) symbols

run-append : (content : Content) (symbols others : List Symbol) →
    run content (symbols ++ others) ≡ run (run content symbols) others
run-append content [] others = refl
run-append content (seen ∷ symbols) others = run-append (content_past content) symbols others

admits-split : (content : Content) (symbols others : List Symbol) →
    admits content (symbols ++ others) ≡ true →
    (admits content symbols ≡ true) × (admits (run content symbols) others ≡ true)
admits-split content [] others h = (refl, h)
admits-split content (seen ∷ symbols) others h =
    grind (arith, admits-split (content_past content) symbols)

after_node : (name : Name) (children : Forest) (around : Role) (before : Option Symbol)
    (content : Content) → IsStanding (standing_of name) around before children →
    content_after content children ≡ run content (spine children) →
    content_after_node content name children
    ≡ run content (shown (standing_of name) (spine children))
after_node name children around before content stands again = grind (arith, transparent)

after_spine : (forest : Forest) (around : Role) (before : Option Symbol) (content : Content) →
    AreShaped forest around before → content_after content forest ≡ run content (spine forest)
after_spine Empty around before content shaped = refl
after_spine (Node name start end children rest) around before content shaped =
    rw (
      after_node name children around before content shaped.0.1
          (after_spine children _ _ content shaped.1),
      after_spine rest _ _ _ shaped.2,
      run-append,
    ) refl

-- ---- a node may stand there, its children in it, and others after it
record Spot (through : Bool) (standing : Standing) (name : Name) (children : Forest) (around : Role)
    (before : Option Symbol) (content : Content) (others : List Symbol) : Type 0 where
  pub stands : through || may_stand content name ≡ true
  pub inside : admits (if through then content else content_of name) (spine children) ≡ true
  pub childless : is_childless (if through then content else content_of name) ≡ true →
      inner_role standing around before ≡ role.Childless
  pub after : admits (run content (shown standing (spine children))) others ≡ true

childless-usual : (usual : Role) → is_childless (group_of usual) ≡ true → usual ≡ role.Childless
childless-usual role.Childless h = refl
childless-usual _ h = lie h

spot : (standing : Standing) (name : Name) (children : Forest) (around : Role)
    (before : Option Symbol) (content : Content) (others : List Symbol) →
    may_stand content name ≡ may_stand content (name_for standing name) →
    content_of name ≡ group_in standing name → IsStanding standing around before children →
    (is_childless content ≡ true → around ≡ role.Childless) →
    admits content (shown standing (spine children) ++ others) ≡ true →
    Spot (is_through standing) standing name children around before content others
spot Through name children around before content others may group stands childless h =
    let whole = admits-split content (spine children) others h in
    record { stands = refl; inside = whole.0; childless = childless; after = whole.1 }
spot Space name children around before content others may group stands childless h = grind arith
spot (Solid seen usual reading) name children around before content others may group stands
    childless h =
    let parts = and_parts _ _ h in
    record {
      stands = may ∙ parts.0;
      inside =
          ap (λ c. admits c (spine children)) (group ∙ sym (role-group around before usual))
          ∙ matches-admitted (role_for around before usual) (spine children) stands;
      childless = λ c. ap (role_for around before)
          (childless-usual usual (ap (λ d. is_childless d) (sym group) ∙ c));
      after = parts.1;
    }
spot Mdx name children around before content others may group stands childless h = absurd stands

fitting : (forest : Forest) (around : Role) (before : Option Symbol) (content : Content) →
    AreShaped forest around before → (is_childless content ≡ true → around ≡ role.Childless) →
    admits content (spine forest) ≡ true → Fits content forest
fitting Empty around before content shaped childless h = tt
fitting (Node name start end children rest) around before content shaped childless h =
    let here : Spot (is_transparent name) (standing_of name) name children around before content
    (spine rest) =
    subst (λ t. Spot t (standing_of name) name children around before content (spine rest))
    (sym (transparent name)) (spot (standing_of name) name children around before content
    (spine rest) (may-same content name) (group-same name) shaped.0.1 childless h) in
    let after = after_node name children around before content shaped.0.1
    (after_spine children _ _ content shaped.1) in (
      and_from _ _ (not_from_false _ (false_from_ne_true (is_childless content)
          (λ c. shaped.0.0 (childless c)))) here.stands,
      fitting children _ _ (content_inside content name) shaped.1 here.childless here.inside,
      fitting rest _ _ (content_after_node content name children) shaped.2
          (λ c. childless
          (sym (node-same is_childless (past-as is_childless refl) content name children) ∙ c))
          (subst (λ c. admits c (spine rest) ≡ true) (sym after) here.after),
    )

pub shaped-fits : (forest : Forest) → IsShaped forest → Fits Blocks forest
shaped-fits forest shaped =
    fitting forest role.Flow None Blocks shaped.0 (λ c. lie c)
    (matches-admitted role.Flow (spine forest) shaped.1)
