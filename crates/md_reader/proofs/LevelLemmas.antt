-- A level of a text, node after node.
use Rattle.std.proofs.Common.{arith, ◌≡◌, ℕ, ◌-◌, ◌≤◌, Bool, true, false, not}
use Rattle.std.proofs.Common.{◌||◌, ◌&&◌, List, [], ◌∷◌, ◌++◌, refl, sym, ap, ◌∙◌, subst}
use Rattle.std.proofs.Common.{append_assoc, inl, inr, ◌⊎◌, Some, None, Option, bytes_eq}
use Rattle.std.specs.List.{list_all}
use Rattle.std.specs.Option.{option_map_or}
use Rattle.std.proofs.lemmas.Bool.{and_parts, and_from, cases_Bool}
use Rattle.md_base.proofs.Lies.{lie}
use Rattle.md_base.specs.Identifier.{is_nonempty}
use Rattle.md_text.specs.Bytes.{is_one_of}
use Rattle.md_text.specs.References.{is_escaped}
use Rattle.md_text.specs.Html.{Attribute, Forest, Empty, Text, Void, Element, written}
use Rattle.md_text.specs.Html.{written_attributes, is_forest, is_tag, are_attributes, elements}
use Rattle.md_text.specs.Html.{void_tags, begins_with_text}
use Rattle.md_text.specs.HtmlName.{is_name_byte, is_name}
use Rattle.md_text.proofs.HtmlNames.{no_angle}
use Rattle.md_text.proofs.HtmlSplit.{stops, split}
use Rattle.md_text.proofs.HtmlReading.{text_parts, element_parts, void_parts}
use Rattle.md_safe.specs.Contents as contents
use Rattle.md_safe.specs.Contents.{is_contained, held_in, voids_in, may_say}
use Rattle.md_depth.specs.Levels.{levels}
use Rattle.md_reader.specs.Runs.{IsRun, begins_escaped}
use Rattle.md_reader.specs.Attributes.{AreAttributes}
use Rattle.md_reader.specs.Names.{has_rule}
use Rattle.md_reader.specs.SplitNames.{IsSplitName}
use Rattle.md_reader.specs.Levels.{EndsText, IsEnd, IsLevel}
use Rattle.md_reader.specs.Tests.{Test, all_pass}
use Rattle.md_reader.proofs.Runs.{same-run}
use Rattle.md_reader.proofs.AttributeLemmas.{left-listed, stops-name}

-- ---- ends
pub ends-unescaped : (rest : List ℕ) → EndsText rest → begins_escaped rest ≡ false
ends-unescaped rest (inl e) = subst (λ x. begins_escaped x ≡ false) (sym e) refl
ends-unescaped rest (inr tag) = subst (λ x. begins_escaped x ≡ false) (sym tag.1) refl

pub end-text : (rest : List ℕ) → IsEnd rest → EndsText rest
end-text rest (inl e) = inl e
end-text rest (inr tag) = inr (47 ∷ tag.0, tag.1)

ends-after : (f : Forest) (end : List ℕ) → not (begins_with_text f) ≡ true → IsEnd end →
    EndsText (written f ++ end)
ends-after Empty end alone ends = end-text end ends
ends-after (Text bytes more) end alone ends = lie alone
ends-after (Void name attributes more) end alone ends = inr (_, refl)
ends-after (Element name attributes inner more) end alone ends = inr (_, refl)

text-open : (bytes tail rest : List ℕ) → is_nonempty bytes ≡ true →
    list_all no_angle bytes ≡ true → rest ≡ bytes ++ tail → EndsText rest → ⊥
text-open [] tail rest filled angles e ends = lie filled
text-open (b ∷ bytes) tail rest filled angles e (inl none) = grind (arith, e, none)
text-open (b ∷ bytes) tail rest filled angles e (inr tag) =
    let head : b ≡ 60 = heads b 60 _ _ (sym e ∙ tag.1) in
    let parts = and_parts (no_angle b) (list_all no_angle bytes) angles in
    lie (subst (λ x. no_angle x ≡ true) head parts.0)
  where
    heads : (b c : ℕ) (x y : List ℕ) → b ∷ x ≡ c ∷ y → b ≡ c
    heads b c x y e = cc

-- no text begins where a text ends
text-alone : (f : Forest) (rest end : List ℕ) → is_forest f ≡ true → rest ≡ written f ++ end →
    EndsText rest → not (begins_with_text f) ≡ true
text-alone Empty rest end inside is ends = refl
text-alone (Text bytes more) rest end inside is ends =
    let parts = text_parts bytes more inside in
    absurd (text-open bytes (written more ++ end) rest parts.filled parts.angles
    (is ∙ append_assoc bytes (written more) end) ends)
text-alone (Void name attributes more) rest end inside is ends = refl
text-alone (Element name attributes inner more) rest end inside is ends = refl

-- ---- no node
pub level-none : (t : Test) (content : contents.Content) (depth : ℕ) (text : List ℕ) →
    IsLevel t content depth text text
level-none t content depth text = record {
  forest = Empty;
  is = refl;
  inside = refl;
  contained = refl;
  passes = refl;
  shallow = omega arith;
}

-- a tag doesn't begin where a level ends
tag-not-end : (name tail text : List ℕ) → is_name name ≡ true → IsEnd text →
    text ≡ 60 ∷ (name ++ tail) → ⊥
tag-not-end name tail text named ends e = grind arith

-- what stands at the end of a level has no node
pub level-end : (t : Test) (content : contents.Content) (depth : ℕ)
    (text end : List ℕ) → IsEnd text → IsLevel t content depth text end → text ≡ end
level-end t content depth text end ends level = at level.forest level.is level.inside
  where
    begins : (name more : List ℕ) → is_name name ≡ true →
        text ≡ (60 ∷ (name ++ more)) ++ end → text ≡ end
    begins name more named is = absurd (tag-not-end name (more ++ end) text named ends
        (is ∙ ap (λ x. 60 ∷ x) (append_assoc name more end)))

    at : (f : Forest) → text ≡ written f ++ end → is_forest f ≡ true → text ≡ end
    at Empty is inside = is
    at (Text bytes more) is inside =
        let parts = text_parts bytes more inside in
        absurd (text-open bytes (written more ++ end) text parts.filled parts.angles
        (is ∙ append_assoc bytes (written more) end) (end-text text ends))
    at (Void name attributes more) is inside =
        let parts = void_parts name attributes more inside in
        begins name (written_attributes attributes ++ (32 ∷ 47 ∷ 62 ∷ written more))
        parts.tidy.0 is
    at (Element name attributes inner more) is inside =
        let parts = element_parts name attributes inner more inside in
        begins name (written_attributes attributes ++ (62 ∷ (written inner ++ (60 ∷ 47
        ∷ (name ++ (62 ∷ written more)))))) parts.tidy.0 is

-- ---- a text
pub level-text : (t : Test) (content : contents.Content) (depth : ℕ)
    (text front rest end : List ℕ) → IsRun text front rest → is_nonempty front ≡ true →
    may_say content front ≡ true → EndsText rest → IsLevel t content depth rest end →
    IsLevel t content depth text end
level-text t content depth text front rest end run filled says ends level =
    let alone = text-alone level.forest rest end level.inside level.is ends in
    record {
      forest = Text front level.forest;
      is = run.is ∙ ap (λ x. front ++ x) level.is
          ∙ sym (append_assoc front (written level.forest) end);
      inside = and_from (is_nonempty front && is_escaped front
          && not (begins_with_text level.forest)) (is_forest level.forest)
          (and_from (is_nonempty front && is_escaped front) (not (begins_with_text level.forest))
          (and_from (is_nonempty front) (is_escaped front) filled run.escaped) alone) level.inside;
      contained = and_from (may_say content front) (is_contained false content level.forest) says
          level.contained;
      passes = level.passes;
      shallow = level.shallow;
    }

pub record TextFacts (t : Test) (content : contents.Content) (depth : ℕ)
    (front rest end : List ℕ) : Type 0 where
  pub filled : is_nonempty front ≡ true
  pub says : may_say content front ≡ true
  pub ends : EndsText rest
  pub level : IsLevel t content depth rest end

pub text-facts : (t : Test) (content : contents.Content) (depth : ℕ)
    (text front rest end : List ℕ) → IsRun text front rest → (IsEnd text → ⊥) →
    ((tag : List ℕ) → text ≡ 60 ∷ tag → ⊥) → IsEnd end → IsLevel t content depth text end →
    TextFacts t content depth front rest end
text-facts t content depth text front rest end run on no_tag ends level =
    at level.forest level.is level.inside level.contained level.passes level.shallow
  where
    at : (f : Forest) → text ≡ written f ++ end → is_forest f ≡ true →
        is_contained false content f ≡ true → all_pass t f ≡ true → levels f ≤ depth →
        TextFacts t content depth front rest end
    at Empty is inside contained passes shallow = absurd (on (subst IsEnd (sym is) ends))
    at (Void name attributes more) is inside contained passes shallow = absurd (no_tag _ is)
    at (Element name attributes inner more) is inside contained passes shallow =
        absurd (no_tag _ is)
    at (Text bytes more) is inside contained passes shallow =
        let parts = text_parts bytes more inside in
        let whole = and_parts (is_nonempty bytes && is_escaped bytes
        && not (begins_with_text more)) (is_forest more) inside in
        let own = and_parts (is_nonempty bytes && is_escaped bytes) (not (begins_with_text more))
        whole.0 in
        let escaped = (and_parts (is_nonempty bytes) (is_escaped bytes) own.0).1 in
        let says = and_parts (may_say content bytes) (is_contained false content more) contained in
        let after = ends-after more end own.1 ends in
        let same = same-run front rest bytes (written more ++ end)
        (sym run.is ∙ is ∙ append_assoc bytes (written more) end) run.escaped escaped run.stops
        (ends-unescaped _ after) in
        record {
          filled = subst (λ x. is_nonempty x ≡ true) (sym same.0) parts.filled;
          says = subst (λ x. may_say content x ≡ true) (sym same.0) says.0;
          ends = subst EndsText (sym same.1) after;
          level = record {
            forest = more;
            is = same.1;
            inside = whole.1;
            contained = says.1;
            passes = passes;
            shallow = shallow;
          };
        }

-- ---- tags
pub record VoidFacts (t : Test) (content : contents.Content) (depth : ℕ)
    (name text end : List ℕ) : Type 0 where
  pub attributes : List Attribute
  pub later : List ℕ
  pub is : text ≡ written_attributes attributes ++ (32 ∷ 47 ∷ 62 ∷ later)
  pub tag : is_tag void_tags name attributes ≡ true
  pub named : t.tag name ≡ true
  pub passes : list_all t.attribute attributes ≡ true
  pub allowed : is_one_of (voids_in content) name ≡ true
  pub deep : 1 ≤ depth
  pub level : IsLevel t content depth later end

pub record ElementFacts (t : Test) (content : contents.Content) (depth : ℕ)
    (name text end : List ℕ) : Type 0 where
  pub attributes : List Attribute
  pub children : List ℕ
  pub later : List ℕ
  pub held : contents.Content
  pub is : text ≡ written_attributes attributes ++ (62 ∷ children)
  pub tag : is_tag elements name attributes ≡ true
  pub named : t.tag name ≡ true
  pub passes : list_all t.attribute attributes ≡ true
  pub allowed : held_in false content name ≡ Some held
  pub deep : 1 ≤ depth
  pub inner : IsLevel t held (depth - 1) children (60 ∷ 47 ∷ (name ++ (62 ∷ later)))
  pub level : IsLevel t content depth later end

after_open : (x y : List ℕ) → 60 ∷ x ≡ 60 ∷ y → x ≡ y
after_open x y e = cc

attributes-stop : (x : List Attribute) (b : ℕ) (more : List ℕ) → is_name_byte b ≡ false →
    stops is_name_byte (written_attributes x ++ (b ∷ more)) ≡ true
attributes-stop [] b more e = ap not e
attributes-stop (a ∷ x) b more e = refl

name-bytes : (name : List ℕ) → is_name name ≡ true → list_all is_name_byte name ≡ true
name-bytes name h = (and_parts (is_nonempty name) (list_all is_name_byte name) h).1

some-passes : {A : Type 0} (f : A → Bool) (o : Option A) → option_map_or f o false ≡ true →
    (x : A) × (o ≡ Some x) × (f x ≡ true)
some-passes f None h = lie h
some-passes f (Some x) h = (x, refl, h)

pub tag-facts : (t : Test) (content : contents.Content) (depth : ℕ)
    (name text end : List ℕ) → IsSplitName (name ++ text) name text →
    (IsEnd (60 ∷ (name ++ text)) → ⊥) → IsEnd end →
    IsLevel t content depth (60 ∷ (name ++ text)) end →
    VoidFacts t content depth name text end ⊎ ElementFacts t content depth name text end
tag-facts t content depth name text end cut on ends level =
    at level.forest level.is level.inside level.contained level.passes level.shallow
  where
    at : (f : Forest) → 60 ∷ (name ++ text) ≡ written f ++ end → is_forest f ≡ true →
        is_contained false content f ≡ true → all_pass t f ≡ true → levels f ≤ depth →
        VoidFacts t content depth name text end ⊎ ElementFacts t content depth name text end
    at Empty is inside contained passes shallow = absurd (on (subst IsEnd (sym is) ends))
    at (Text bytes more) is inside contained passes shallow =
        let parts = text_parts bytes more inside in
        absurd (text-open bytes (written more ++ end) (60 ∷ (name ++ text)) parts.filled
        parts.angles (is ∙ append_assoc bytes (written more) end) (inr (name ++ text, refl)))
    at (Void other attributes more) is inside contained passes shallow =
        let parts = void_parts other attributes more inside in
        let later = written more ++ end in
        let e : name ++ text ≡ other ++ (written_attributes attributes
        ++ (32 ∷ 47 ∷ 62 ∷ later)) = after_open _ _ is ∙ simp append_assoc refl in
        let same = split is_name_byte name other text _ cut.named (name-bytes other parts.tidy.0)
        (stops-name text cut.stops) (attributes-stop attributes 32 _ refl) e in
        let tags = and_parts (is_tag void_tags other attributes) (is_forest more) inside in
        let places = and_parts (is_one_of (voids_in content) other)
        (is_contained false content more) contained in
        let tests = and_parts (t.tag other && list_all t.attribute attributes) (all_pass t more)
        passes in
        let own = and_parts (t.tag other) (list_all t.attribute attributes) tests.0 in
        inl (record {
          attributes = attributes;
          later = later;
          is = same.1;
          tag = subst (λ n. is_tag void_tags n attributes ≡ true) (sym same.0) tags.0;
          named = subst (λ n. t.tag n ≡ true) (sym same.0) own.0;
          passes = own.1;
          allowed = subst (λ n. is_one_of (voids_in content) n ≡ true) (sym same.0) places.0;
          deep = omega (arith, shallow);
          level = record {
            forest = more;
            is = refl;
            inside = tags.1;
            contained = places.1;
            passes = tests.1;
            shallow = omega (arith, shallow);
          };
        })
    at (Element other attributes inner more) is inside contained passes shallow =
        let parts = element_parts other attributes inner more inside in
        let later = written more ++ end in
        let e : name ++ text ≡ other ++ (written_attributes attributes ++ (62 ∷ (written inner
        ++ (60 ∷ 47 ∷ (other ++ (62 ∷ later)))))) = after_open _ _ is
        ∙ simp append_assoc refl in
        let same = split is_name_byte name other text _ cut.named (name-bytes other parts.tidy.0)
        (stops-name text cut.stops) (attributes-stop attributes 62 _ refl) e in
        let whole = and_parts (is_tag elements other attributes && is_forest inner)
        (is_forest more) inside in
        let tags = and_parts (is_tag elements other attributes) (is_forest inner) whole.0 in
        let places = and_parts (option_map_or (λ held. is_contained false held inner)
        (held_in false content other) false) (is_contained false content more) contained in
        let held = some-passes (λ held. is_contained false held inner)
        (held_in false content other) places.0 in
        let tests = and_parts (t.tag other && list_all t.attribute attributes && all_pass t inner)
        (all_pass t more) passes in
        let within = and_parts (t.tag other && list_all t.attribute attributes)
        (all_pass t inner) tests.0 in
        let own = and_parts (t.tag other) (list_all t.attribute attributes) within.0 in
        inr (record {
          attributes = attributes;
          children = written inner ++ (60 ∷ 47 ∷ (other ++ (62 ∷ later)));
          later = later;
          held = held.0;
          is = same.1;
          tag = subst (λ n. is_tag elements n attributes ≡ true) (sym same.0) tags.0;
          named = subst (λ n. t.tag n ≡ true) (sym same.0) own.0;
          passes = own.1;
          allowed = subst (λ n. held_in false content n ≡ Some held.0) (sym same.0) held.1;
          deep = omega (arith, shallow);
          inner = record {
            forest = inner;
            is = ap (λ n. written inner ++ (60 ∷ 47 ∷ (n ++ (62 ∷ later)))) (sym same.0);
            inside = tags.1;
            contained = held.2;
            passes = within.1;
            shallow = omega (arith, shallow);
          };
          level = record {
            forest = more;
            is = refl;
            inside = whole.1;
            contained = places.1;
            passes = tests.1;
            shallow = omega (arith, shallow);
          };
        })

-- a tag's name is in its table
pub tag-rule : (rules : List (List ℕ × List (List ℕ))) (name : List ℕ) (x : List Attribute) →
    is_tag rules name x ≡ true → has_rule rules name ≡ true
tag-rule [] name x h = lie h
tag-rule (rule ∷ rules) name x h = elim (cases_Bool (bytes_eq rule.0 name)) [
  | inl is ↦ rw is refl
  | inr other ↦ rw other (tag-rule rules name x
      (sym (ap (λ b. (b && are_attributes rule.1 x) || is_tag rules name x) other) ∙ h))
]

-- the attributes that a tag may have
pub listed-are : (t : Test) (list : List (List ℕ)) (x : List Attribute)
    (text end : List ℕ) → text ≡ written_attributes x ++ end → are_attributes list x ≡ true →
    list_all t.attribute x ≡ true → AreAttributes t.attribute (is_one_of list) text end
listed-are t list x text end is listed passes =
    record { attributes = x; is = is; fresh = left-listed list x ∙ listed; passes = passes }

pub level-void : (t : Test) (content : contents.Content) (depth : ℕ)
    (list : List (List ℕ)) (name text later end : List ℕ) →
    is_one_of (voids_in content) name ≡ true → 1 ≤ depth → t.tag name ≡ true →
    ((x : List Attribute) → are_attributes list x ≡ true → is_tag void_tags name x ≡ true) →
    AreAttributes t.attribute (is_one_of list) text (32 ∷ 47 ∷ 62 ∷ later) →
    IsLevel t content depth later end → IsLevel t content depth (60 ∷ (name ++ text)) end
level-void t content depth list name text later end allowed deep named tag are level =
    let x = are.attributes in
    record {
      forest = Void name x level.forest;
      is = ap (λ y. 60 ∷ (name ++ y)) (are.is
          ∙ ap (λ y. written_attributes x ++ (32 ∷ 47 ∷ 62 ∷ y)) level.is)
          ∙ simp append_assoc refl;
      inside = and_from (is_tag void_tags name x) (is_forest level.forest)
          (tag x (sym (left-listed list x) ∙ are.fresh)) level.inside;
      contained = and_from (is_one_of (voids_in content) name)
          (is_contained false content level.forest) allowed level.contained;
      passes = and_from (t.tag name && list_all t.attribute x) (all_pass t level.forest)
          (and_from (t.tag name) (list_all t.attribute x) named are.passes) level.passes;
      shallow = omega (arith, deep, level.shallow);
    }

pub level-element : (t : Test) (content held : contents.Content) (depth : ℕ)
    (list : List (List ℕ)) (name text children later end : List ℕ) →
    held_in false content name ≡ Some held → 1 ≤ depth → t.tag name ≡ true →
    ((x : List Attribute) → are_attributes list x ≡ true → is_tag elements name x ≡ true) →
    AreAttributes t.attribute (is_one_of list) text (62 ∷ children) →
    IsLevel t held (depth - 1) children (60 ∷ 47 ∷ (name ++ (62 ∷ later))) →
    IsLevel t content depth later end → IsLevel t content depth (60 ∷ (name ++ text)) end
level-element t content held depth list name text children later end allowed deep named tag are
    inner level =
    let x = are.attributes in
    record {
      forest = Element name x inner.forest level.forest;
      is = ap (λ y. 60 ∷ (name ++ y)) (are.is
          ∙ ap (λ y. written_attributes x ++ (62 ∷ y)) (inner.is
          ∙ ap (λ y. written inner.forest ++ (60 ∷ 47 ∷ (name ++ (62 ∷ y)))) level.is))
          ∙ simp append_assoc refl;
      inside = and_from (is_tag elements name x && is_forest inner.forest)
          (is_forest level.forest) (and_from (is_tag elements name x) (is_forest inner.forest)
          (tag x (sym (left-listed list x) ∙ are.fresh)) inner.inside) level.inside;
      contained = and_from (option_map_or (λ held. is_contained false held inner.forest)
          (held_in false content name) false) (is_contained false content level.forest)
          (ap (λ o. option_map_or (λ held. is_contained false held inner.forest) o false) allowed
          ∙ inner.contained) level.contained;
      passes = and_from (t.tag name && list_all t.attribute x && all_pass t inner.forest)
          (all_pass t level.forest) (and_from (t.tag name && list_all t.attribute x)
          (all_pass t inner.forest) (and_from (t.tag name) (list_all t.attribute x) named
          are.passes) inner.passes) level.passes;
      shallow = omega (arith, deep, inner.shallow, level.shallow);
    }
