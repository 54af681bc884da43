-- A node of a level, or why there is none.
use Rattle.std.proofs.Common.{arith, ◌≡◌, ℕ, ◌-◌, ◌≤◌, true, false, List, [], ◌∷◌, ◌++◌}
use Rattle.std.proofs.Common.{refl, sym, ap, ◌∙◌, subst, length, inl, inr, Some, None, Option}
use Rattle.std.proofs.Common.{codes}
use Rattle.std.proofs.Common.{MatchOption}
use denote.Ref.{Bor}
use Rattle.std.specs.Option.{option_map_or}
use Rattle.md_base.proofs.Lies.{lie}
use Rattle.md_base.specs.Identifier.{is_nonempty}
use Rattle.md_text.specs.Bytes.{is_one_of}
use Rattle.md_text.specs.Html.{Attribute, is_tag, are_attributes, void_tags}
use Rattle.md_safe.specs.Contents as contents
use Rattle.md_safe.specs.Contents.{held_in, elements_in, voids_in, may_say}
use Rattle.md_reader.specs.Runs.{IsRun}
use Rattle.md_reader.specs.Names.{has_rule, listed}
use Rattle.md_reader.specs.SplitNames.{IsSplitName}
use Rattle.md_reader.specs.Attributes.{AreAttributes, EndsAttributes}
use Rattle.md_reader.specs.Allowed.{content_of, held_among, IsAllowed}
use Rattle.md_reader.specs.declared.content.Allowed.{Allowed}
use Rattle.md_reader.specs.Levels.{EndsText, IsEnd, IsLevel, IsNode, IsNoLevel}
use Rattle.md_reader.specs.Tests.{Test}
use Rattle.md_reader.proofs.LevelLemmas.{text-facts, level-text, tag-facts, tag-rule}
use Rattle.md_reader.proofs.LevelLemmas.{VoidFacts, ElementFacts, listed-are, level-void}
use Rattle.md_reader.proofs.LevelLemmas.{level-element}

-- ---- texts
pub text-node : (t : Test) (content : contents.Content) (depth : ℕ)
    (text front rest : List ℕ) → IsRun text front rest → (IsEnd text → ⊥) →
    ((tag : List ℕ) → text ≡ 60 ∷ tag → ⊥) → is_nonempty front ≡ true →
    may_say content front ≡ true → EndsText rest → IsNode t content depth text rest
text-node t content depth text front rest run on no_tag filled says ends = record {
  back = λ end level.
      level-text t content depth text front rest end run filled says ends level;
  forth = λ end done level.
      (text-facts t content depth text front rest end run on no_tag done level).level;
}

pub no-text : (t : Test) (content : contents.Content) (depth : ℕ)
    (text front rest : List ℕ) → IsRun text front rest → (IsEnd text → ⊥) →
    ((tag : List ℕ) → text ≡ 60 ∷ tag → ⊥) →
    (is_nonempty front ≡ true → may_say content front ≡ true → EndsText rest → ⊥) →
    IsNoLevel t content depth text
no-text t content depth text front rest run on no_tag none = λ end done level.
    let facts = text-facts t content depth text front rest end run on no_tag done level in
    none facts.filled facts.says facts.ends

-- ---- void tags
some-none : {A : Type 0} (o : Option A) (x : A) → o ≡ None → o ≡ Some x → ⊥
some-none o x e f = lie (ap (λ o. option_map_or (λ y. true) o false) (sym e ∙ f))

pub void-facts : (t : Test) (content : contents.Content) (depth : ℕ)
    (name text end : List ℕ) → IsSplitName (name ++ text) name text →
    (IsEnd (60 ∷ (name ++ text)) → ⊥) →
    held_among (elements_in false content) name ≡ None → IsEnd end →
    IsLevel t content depth (60 ∷ (name ++ text)) end → VoidFacts t content depth name text end
void-facts t content depth name text end cut on none done level =
    elim (tag-facts t content depth name text end cut on done level) [
      | inl void ↦ void
      | inr element ↦ absurd (some-none (held_in false content name) element.held none
          element.allowed)
    ]

pub no-tag : (t : Test) (content : contents.Content) (depth : ℕ)
    (name text : List ℕ) → IsSplitName (name ++ text) name text →
    (IsEnd (60 ∷ (name ++ text)) → ⊥) →
    held_among (elements_in false content) name ≡ None → has_rule void_tags name ≡ false →
    IsNoLevel t content depth (60 ∷ (name ++ text))
no-tag t content depth name text cut on none no_void = λ end done level.
    let void = void-facts t content depth name text end cut on none done level in
    lie (sym no_void ∙ tag-rule void_tags name void.attributes void.tag)

pub no-void : (t : Test) (content : contents.Content) (depth : ℕ)
    (list : List (List ℕ)) (name text : List ℕ) → IsSplitName (name ++ text) name text →
    (IsEnd (60 ∷ (name ++ text)) → ⊥) →
    held_among (elements_in false content) name ≡ None →
    ((x : List Attribute) → is_tag void_tags name x ≡ true → are_attributes list x ≡ true) →
    (1 ≤ depth → is_one_of (voids_in content) name ≡ true → (later : List ℕ) →
    AreAttributes t.attribute (is_one_of list) text (32 ∷ 47 ∷ 62 ∷ later) → ⊥) →
    IsNoLevel t content depth (60 ∷ (name ++ text))
no-void t content depth list name text cut on none only refuted = λ end done level.
    let void = void-facts t content depth name text end cut on none done level in
    refuted void.deep void.allowed void.later (listed-are t list void.attributes text
    (32 ∷ 47 ∷ 62 ∷ void.later) void.is (only void.attributes void.tag) void.passes)

-- a void tag's end is there, or not
pub void-each : (t : Test) (content : contents.Content) (depth : ℕ)
    (list : List (List ℕ)) (name text mid : List ℕ) → IsSplitName (name ++ text) name text →
    (IsEnd (60 ∷ (name ++ text)) → ⊥) →
    held_among (elements_in false content) name ≡ None → 1 ≤ depth →
    is_one_of (voids_in content) name ≡ true → t.tag name ≡ true →
    ((x : List Attribute) → are_attributes list x ≡ true → is_tag void_tags name x ≡ true) →
    ((x : List Attribute) → is_tag void_tags name x ≡ true → are_attributes list x ≡ true) →
    AreAttributes t.attribute (is_one_of list) text mid →
    ((end : List ℕ) → EndsAttributes end → AreAttributes t.attribute (is_one_of list) text end →
    mid ≡ end) → (r : Option (Bor (List ℕ))) →
    MatchOption r ((rest : List ℕ) → mid ≡ codes " />" ++ rest → ⊥)
    (λ rest. mid ≡ codes " />" ++ rest.now) →
    MatchOption r (IsNoLevel t content depth (60 ∷ (name ++ text)))
    (λ rest. IsNode t content depth (60 ∷ (name ++ text)) rest.now)
void-each t content depth list name text mid cut on none deep allowed named tag only are same None
    h =
    no-void t content depth list name text cut on none only
    (λ deep allowed later found. h later (same (32 ∷ 47 ∷ 62 ∷ later)
    (inr (62 ∷ later, refl)) found))
void-each t content depth list name text mid cut on none deep allowed named tag only are same
    (Some rest) h =
    record {
      back = λ end level. level-void t content depth list name text rest.now end allowed deep
          named tag
          (subst (λ x. AreAttributes t.attribute (is_one_of list) text x) h are) level;
      forth = λ end done level.
          let void = void-facts t content depth name text end cut on none done level in
          let mids = same (32 ∷ 47 ∷ 62 ∷ void.later) (inr (62 ∷ void.later, refl))
          (listed-are t list void.attributes text (32 ∷ 47 ∷ 62 ∷ void.later) void.is
          (only void.attributes void.tag) void.passes) in
          subst (λ x. IsLevel t content depth x end) (tails void.later rest.now (sym mids ∙ h))
          void.level;
    }
  where
    tails : (x y : List ℕ) → 32 ∷ 47 ∷ 62 ∷ x ≡ 32 ∷ 47 ∷ 62 ∷ y → x ≡ y
    tails x y e = cc

-- ---- elements
pub record ElementReads (t : Test) (content : contents.Content) (depth : ℕ)
    (found : Allowed) (name text end : List ℕ) : Type 0 where
  pub children : List ℕ
  pub later : List ℕ
  pub are : AreAttributes t.attribute (is_one_of (listed found.list)) text (62 ∷ children)
  pub deep : 1 ≤ depth
  pub inner : IsLevel t (content_of found.content) (depth - 1) children
      (60 ∷ 47 ∷ (name ++ (62 ∷ later)))
  pub level : IsLevel t content depth later end

pub element-reads : (t : Test) (content : contents.Content) (depth : ℕ)
    (found : Allowed) (name text end : List ℕ) → IsSplitName (name ++ text) name text →
    (IsEnd (60 ∷ (name ++ text)) → ⊥) → IsAllowed (elements_in false content) name found →
    IsEnd end → IsLevel t content depth (60 ∷ (name ++ text)) end →
    ElementReads t content depth found name text end
element-reads t content depth found name text end cut on allowed done level =
    elim (tag-facts t content depth name text end cut on done level) [
      | inl void ↦ lie (sym allowed.no_void ∙ tag-rule void_tags name void.attributes void.tag)
      | inr element ↦ by element
    ]
  where
    same-some : (x y : contents.Content) → Some x ≡ Some y → x ≡ y
    same-some x y e = ap (λ o. option_map_or (λ z. z) o x) e

    by : ElementFacts t content depth name text end →
        ElementReads t content depth found name text end
    by element =
        let held = same-some element.held (content_of found.content)
        (sym element.allowed ∙ allowed.held) in
        record {
          children = element.children;
          later = element.later;
          are = listed-are t (listed found.list) element.attributes text
              (62 ∷ element.children) element.is (allowed.only element.attributes element.tag)
              element.passes;
          deep = element.deep;
          inner = subst (λ held. IsLevel t held (depth - 1) element.children
              (60 ∷ 47 ∷ (name ++ (62 ∷ element.later)))) held element.inner;
          level = element.level;
        }

pub no-element : (t : Test) (content : contents.Content) (depth : ℕ)
    (found : Allowed) (name text : List ℕ) → IsSplitName (name ++ text) name text →
    (IsEnd (60 ∷ (name ++ text)) → ⊥) → IsAllowed (elements_in false content) name found →
    (1 ≤ depth → (children later : List ℕ) →
    AreAttributes t.attribute (is_one_of (listed found.list)) text (62 ∷ children) →
    IsLevel t (content_of found.content) (depth - 1) children
    (60 ∷ 47 ∷ (name ++ (62 ∷ later))) → ⊥) →
    IsNoLevel t content depth (60 ∷ (name ++ text))
no-element t content depth found name text cut on allowed refuted = λ end done level.
    let reads = element-reads t content depth found name text end cut on allowed done level in
    refuted reads.deep reads.children reads.later reads.are reads.inner

-- an element's end tag is there, or not
pub element-each : (t : Test) (content : contents.Content) (depth : ℕ)
    (found : Allowed) (name text mid children close : List ℕ) →
    IsSplitName (name ++ text) name text → (IsEnd (60 ∷ (name ++ text)) → ⊥) →
    IsAllowed (elements_in false content) name found → 1 ≤ depth → t.tag name ≡ true →
    AreAttributes t.attribute (is_one_of (listed found.list)) text mid →
    ((end : List ℕ) → EndsAttributes end →
    AreAttributes t.attribute (is_one_of (listed found.list)) text end → mid ≡ end) →
    mid ≡ 62 ∷ children →
    IsLevel t (content_of found.content) (depth - 1) children close →
    ((end : List ℕ) → IsEnd end →
    IsLevel t (content_of found.content) (depth - 1) children end → close ≡ end) →
    (r : Option (Bor (List ℕ))) →
    MatchOption r ((rest : List ℕ) → close ≡ 60 ∷ 47 ∷ (name ++ (62 ∷ rest)) → ⊥)
    (λ rest. close ≡ 60 ∷ 47 ∷ (name ++ (62 ∷ rest.now))) →
    MatchOption r (IsNoLevel t content depth (60 ∷ (name ++ text)))
    (λ rest. IsNode t content depth (60 ∷ (name ++ text)) rest.now)
element-each t content depth found name text mid children close cut on allowed deep named are same
    is inner inside None h =
    no-element t content depth found name text cut on allowed
    (λ deep other later found_are level.
    let others = tails children other
    (sym is ∙ same (62 ∷ other) (inl (other, refl)) found_are) in
    h later (inside (60 ∷ 47 ∷ (name ++ (62 ∷ later))) (inr (name ++ (62 ∷ later), refl))
    (subst (λ x. IsLevel t (content_of found.content) (depth - 1) x
    (60 ∷ 47 ∷ (name ++ (62 ∷ later)))) (sym others) level)))
  where
    tails : (x y : List ℕ) → 62 ∷ x ≡ 62 ∷ y → x ≡ y
    tails x y e = cc
element-each t content depth found name text mid children close cut on allowed deep named are same
    is inner inside (Some rest) h =
    record {
      back = λ end level. level-element t content (content_of found.content) depth
          (listed found.list) name text children rest.now end allowed.held deep named allowed.tag
          (subst (λ x. AreAttributes t.attribute (is_one_of (listed found.list)) text x) is are)
          (subst (λ x. IsLevel t (content_of found.content) (depth - 1) children x) h inner)
          level;
      forth = λ end done level.
          let reads = element-reads t content depth found name text end cut on allowed done level
          in
          let others = tails children reads.children
          (sym is ∙ same (62 ∷ reads.children) (inl (reads.children, refl)) reads.are) in
          let ends : List ℕ = 60 ∷ 47 ∷ (name ++ (62 ∷ reads.later)) in
          let closes = inside ends (inr (name ++ (62 ∷ reads.later), refl))
          (subst (λ x. IsLevel t (content_of found.content) (depth - 1) x ends) (sym others)
          reads.inner) in
          subst (λ x. IsLevel t content depth x end)
          (closed name reads.later rest.now (sym closes ∙ h)) reads.level;
    }
  where
    tails : (x y : List ℕ) → 62 ∷ x ≡ 62 ∷ y → x ≡ y
    tails x y e = cc

    closed : (name x y : List ℕ) → 60 ∷ 47 ∷ (name ++ (62 ∷ x)) ≡ 60 ∷ 47 ∷ (name ++ (62 ∷ y)) →
        x ≡ y
    closed name x y e = after name x y (cut2 (name ++ (62 ∷ x)) (name ++ (62 ∷ y)) e)
      where
        cut2 : (x y : List ℕ) → 60 ∷ 47 ∷ x ≡ 60 ∷ 47 ∷ y → x ≡ y
        cut2 x y e = cc

        after : (name x y : List ℕ) → name ++ (62 ∷ x) ≡ name ++ (62 ∷ y) → x ≡ y
        after [] x y e = tails x y e
        after (b ∷ name) x y e = after name x y (less b b (name ++ (62 ∷ x)) (name ++ (62 ∷ y)) e)
          where
            less : (b c : ℕ) (x y : List ℕ) → b ∷ x ≡ c ∷ y → x ≡ y
            less b c x y e = cc

pub cut-same : (text name rest : List ℕ) → IsSplitName text name rest →
    IsSplitName (name ++ rest) name rest
cut-same text name rest cut =
    record { is = refl; named = cut.named; stops = cut.stops }

-- ---- tags that may not be there
pub no-named : (t : Test) (content : contents.Content) (depth : ℕ)
    (tag name text : List ℕ) → IsSplitName tag name text → (IsEnd (60 ∷ tag) → ⊥) →
    t.tag name ≡ false → IsNoLevel t content depth (60 ∷ tag)
no-named t content depth tag name text cut on none = λ end done level.
    elim (tag-facts t content depth name text end (cut-same tag name text cut)
    (λ e. on (subst (λ x. IsEnd (60 ∷ x)) (sym cut.is) e)) done
    (subst (λ x. IsLevel t content depth (60 ∷ x) end) cut.is level)) [
      | inl void ↦ lie (sym none ∙ void.named)
      | inr element ↦ lie (sym none ∙ element.named)
    ]

-- ---- tags as deep as they may be
pub no-depth : (t : Test) (content : contents.Content) (depth : ℕ)
    (name text : List ℕ) → IsSplitName (name ++ text) name text →
    (IsEnd (60 ∷ (name ++ text)) → ⊥) → depth ≡ 0 →
    IsNoLevel t content depth (60 ∷ (name ++ text))
no-depth t content depth name text cut on zero = λ end done level.
    elim (tag-facts t content depth name text end cut on done level) [
      | inl void ↦ absurd (omega (arith, void.deep, zero))
      | inr element ↦ absurd (omega (arith, element.deep, zero))
    ]

pub no-place : (t : Test) (content : contents.Content) (depth : ℕ)
    (name text : List ℕ) → IsSplitName (name ++ text) name text →
    (IsEnd (60 ∷ (name ++ text)) → ⊥) →
    held_among (elements_in false content) name ≡ None →
    is_one_of (voids_in content) name ≡ false → IsNoLevel t content depth (60 ∷ (name ++ text))
no-place t content depth name text cut on none refuted = λ end done level.
    let void = void-facts t content depth name text end cut on none done level in
    lie (sym refuted ∙ void.allowed)

-- ---- the same text in other words
pub node-same : (t : Test) (content : contents.Content) (depth : ℕ)
    (text other : List ℕ) (r : Option (Bor (List ℕ))) → text ≡ other →
    MatchOption r (IsNoLevel t content depth text)
    (λ rest. IsNode t content depth text rest.now) →
    MatchOption r (IsNoLevel t content depth other)
    (λ rest. IsNode t content depth other rest.now)
node-same t content depth text other r e h =
    subst (λ x. MatchOption r (IsNoLevel t content depth x)
    (λ rest. IsNode t content depth x rest.now)) e h

pub filled : (front : List ℕ) → (length front ≡ 0 → ⊥) → is_nonempty front ≡ true
filled [] h = absurd (h refl)
filled (b ∷ front) h = refl

pub empty : (front : List ℕ) → length front ≡ 0 → is_nonempty front ≡ true → ⊥
empty [] h e = lie e
empty (b ∷ front) h e = absurd (omega (arith, h))

-- ---- end tags
pub end-cut : (x y : List ℕ) → 60 ∷ 47 ∷ x ≡ 60 ∷ 47 ∷ y → x ≡ y
end-cut x y e = cc

same-after : (name x y : List ℕ) → name ++ x ≡ name ++ y → x ≡ y
same-after [] x y e = e
same-after (b ∷ name) x y e = same-after name x y (tail b (name ++ x) (name ++ y) e)
  where
    tail : (b : ℕ) (x y : List ℕ) → b ∷ x ≡ b ∷ y → x ≡ y
    tail b x y e = cc

pub end-each : (text name end mid : List ℕ) → text ≡ 60 ∷ 47 ∷ end → end ≡ name ++ mid →
    (r : Option (Bor (List ℕ))) →
    MatchOption r ((rest : List ℕ) → mid ≡ 62 ∷ rest → ⊥) (λ rest. mid ≡ 62 ∷ rest.now) →
    MatchOption r ((rest : List ℕ) → text ≡ 60 ∷ 47 ∷ (name ++ (62 ∷ rest)) → ⊥)
    (λ rest. text ≡ 60 ∷ 47 ∷ (name ++ (62 ∷ rest.now)))
end-each text name end mid is ends None h = λ rest e. h rest
    (same-after name mid (62 ∷ rest) (sym ends
    ∙ end-cut end (name ++ (62 ∷ rest)) (sym is ∙ e)))
end-each text name end mid is ends (Some rest) h =
    is ∙ ap (λ x. 60 ∷ 47 ∷ x) (ends ∙ ap (λ x. name ++ x) h)

pub child-same : (x y : List ℕ) → 62 ∷ x ≡ 62 ∷ y → x ≡ y
child-same x y e = cc
