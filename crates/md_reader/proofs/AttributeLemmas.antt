-- Attributes, one after another.
use Rattle.std.proofs.Common.{arith, ◌≡◌, ◌≢◌, ℕ, suc, ◌<◌, ◌==◌, Bool, true, false, not, ◌||◌}
use Rattle.std.proofs.Common.{◌&&◌}
use Rattle.std.proofs.Common.{List, [], ◌∷◌, ◌++◌, length, refl, sym, ap, ◌∙◌, subst, append_assoc}
use Rattle.std.proofs.Common.{inl, inr, ◌⊎◌, Some, None, Option, option_map, bytes_eq, get_or}
use Rattle.std.proofs.Common.{eqb-true, zero, take, map, MatchOption, is_some}
use denote.Ref.{Bor}
use Rattle.std.specs.List.{list_all, list_any}
use Rattle.std.specs.Option.{option_map_or}
use Rattle.std.specs.Cmp.Lexicographic.{bytes_decides}
use Rattle.std.proofs.Math.ListN.{set}
use Rattle.std.proofs.lemmas.Bool.{and_parts, and_from, cases_Bool}
use Rattle.std.proofs.lemmas.List.{get_or-set_same, get_or-set_other}
use Rattle.md_base.proofs.Lies.{lie}
use Rattle.md_text.specs.Bytes.{is_one_of}
use Rattle.md_text.specs.References.{is_escaped}
use Rattle.md_text.specs.Html.{Attribute, are_attributes, written_attributes}
use Rattle.md_text.specs.HtmlName.{is_name_byte}
use Rattle.md_text.proofs.HtmlSplit.{stops, split}
use Rattle.md_reader.specs.Attributes.{index_of, is_unseen, without, are_left, EndsAttributes}
use Rattle.md_reader.specs.Attributes.{AreAttributes, IsAttribute, IsAttributeAt}
use Rattle.md_reader.specs.Names.{listed}
use Rattle.md_reader.specs.declared.names.Listed.{Listed}
use Rattle.md_reader.specs.declared.names.Listed.TheVariants.{Shared, OfBlock, OfRow, OfCell}
use Rattle.md_reader.specs.declared.names.Listed.TheVariants.{OfTable, OfCode, OfList, OfSecond}
use Rattle.md_reader.specs.declared.names.Listed.TheVariants.{OfDetails, OfSection, OfLink}
use Rattle.md_reader.specs.declared.names.Listed.TheVariants.{OfImage, OfInput}
use Rattle.md_reader.specs.Runs.{IsRun}
use Rattle.md_reader.specs.SplitNames.{begins_name, IsSplitName}
use Rattle.md_reader.proofs.Runs.{same-run}

-- ---- the names that are left
pub left-same : (f g : List ℕ → Bool) → ((name : List ℕ) → f name ≡ g name) →
    (x : List Attribute) → are_left f x ≡ are_left g x
left-same f g h [] = refl
left-same f g h (a ∷ x) =
    rw (
      h a.name,
      left-same (without f a.name) (without g a.name)
          (λ name. ap (λ b. b && not (bytes_eq a.name name)) (h name)) x,
    ) refl

left-without : (f : List ℕ → Bool) (name : List ℕ) (x : List Attribute) →
    are_left (without f name) x
    ≡ (not (list_any (λ later. bytes_eq name later.name) x) && are_left f x)
left-without f name [] = refl
left-without f name (a ∷ x) =
    rw (
      left-without (without f name) a.name x,
      left-without f name x,
      left-without f a.name x,
    ) (algebra (f a.name) (bytes_eq name a.name) (is_escaped a.value) _ _ _)
  where
    algebra : (p q e s t u : Bool) →
        (((p && not q) && e) && (not s && (not t && u)))
        ≡ (not (q || t) && ((p && e) && (not s && u)))
    algebra p q e s t u = grind arith

pub left-listed : (list : List (List ℕ)) (x : List Attribute) →
    are_left (is_one_of list) x ≡ are_attributes list x
left-listed list [] = refl
left-listed list (a ∷ x) =
    rw (left-without (is_one_of list) a.name x, left-listed list x)
    (assoc (is_one_of list a.name && is_escaped a.value) _ _)
  where
    assoc : (p q r : Bool) → (p && (q && r)) ≡ ((p && q) && r)
    assoc true q r = refl
    assoc false q r = refl

-- ---- options of indices
none-some : {A : Type 0} (i : ℕ) → None ≡ Some i → A
none-some i e = lie (ap (λ o. option_map_or (λ x. true) o false) e)

some-same : (i j : ℕ) → Some i ≡ Some j → i ≡ j
some-same i j e = ap (λ o. option_map_or (λ x. x) o 0) e

shifted : (f : ℕ → Bool) (o : Option ℕ) → option_map_or f (option_map (λ i. suc i) o) false
    ≡ option_map_or (λ i. f (suc i)) o false
shifted f None = refl
shifted f (Some i) = refl

shifted-some : (o : Option ℕ) (i : ℕ) → option_map (λ j. suc j) o ≡ Some i →
    (j : ℕ) × (o ≡ Some j) × (i ≡ suc j)
shifted-some None i e = none-some i e
shifted-some (Some j) i e = (j, refl, sym (some-same (suc j) i e))

or-parts : (p q : Bool) → (p || q) ≡ false → (p ≡ false) × (q ≡ false)
or-parts true q h = lie (sym h)
or-parts false q h = (refl, h)

index-on : (n : List ℕ) (names : List (List ℕ)) (name : List ℕ) → bytes_eq name n ≡ false →
    index_of (n ∷ names) name ≡ option_map (λ i. suc i) (index_of names name)
index-on n names name other = rw other refl

index-here : (n : List ℕ) (names : List (List ℕ)) (name : List ℕ) → bytes_eq name n ≡ true →
    index_of (n ∷ names) name ≡ Some 0
index-here n names name is = rw is refl

-- ---- the names that were seen
index-listed : (names : List (List ℕ)) (name : List ℕ) (f : ℕ → Bool) →
    ((i : ℕ) → f i ≡ true) → option_map_or f (index_of names name) false ≡ is_one_of names name
index-listed [] name f h = refl
index-listed (n ∷ names) name f h = elim (cases_Bool (bytes_eq name n)) [
  | inl is ↦ rw is (h 0)
  | inr other ↦ rw other (shifted f (index_of names name)
      ∙ index-listed names name (λ i. f (suc i)) (λ i. h (suc i)))
]

pub none-seen : (names : List (List ℕ)) (seen : List Bool) →
    ((i : ℕ) → get_or seen i false ≡ false) → (name : List ℕ) →
    is_unseen names seen name ≡ is_one_of names name
none-seen names seen h name =
    index-listed names name (λ i. not (get_or seen i false)) (λ i. ap not (h i))

index-one : (names : List (List ℕ)) (name : List ℕ) (f : ℕ → Bool) →
    option_map_or f (index_of names name) false ≡ true → is_one_of names name ≡ true
index-one [] name f h = lie h
index-one (n ∷ names) name f h = elim (cases_Bool (bytes_eq name n)) [
  | inl is ↦ rw is refl
  | inr other ↦ rw other (index-one names name (λ i. f (suc i))
      (sym (ap (λ o. option_map_or f o false) (index-on n names name other)
      ∙ shifted f (index_of names name)) ∙ h))
]

one-passes : (names : List (List ℕ)) (p : List ℕ → Bool) (name : List ℕ) →
    list_all p names ≡ true → is_one_of names name ≡ true → p name ≡ true
one-passes [] p name h e = lie e
one-passes (n ∷ names) p name h e =
    let parts = and_parts (p n) (list_all p names) h in
    elim (cases_Bool (bytes_eq name n)) [
      | inl is ↦ subst (λ x. p x ≡ true) (sym ((bytes_decides name n).0 is)) parts.0
      | inr other ↦ one-passes names p name parts.1
          (sym (ap (λ b. b || is_one_of names name) other) ∙ e)
    ]

-- a name that wasn't seen is listed
pub unseen-passes : (names : List (List ℕ)) (seen : List Bool) (p : List ℕ → Bool) →
    list_all p names ≡ true → (name : List ℕ) → is_unseen names seen name ≡ true → p name ≡ true
unseen-passes names seen p h name e =
    one-passes names p name h (index-one names name (λ i. not (get_or seen i false)) e)

same-index : (names : List (List ℕ)) (x y : List ℕ) (i : ℕ) → index_of names x ≡ Some i →
    index_of names y ≡ Some i → x ≡ y
same-index [] x y i a b = none-some i a
same-index (n ∷ names) x y i a b = elim (cases_Bool (bytes_eq x n)) [
  | inl xn ↦ elim (cases_Bool (bytes_eq y n)) [
    | inl yn ↦ (bytes_decides x n).0 xn ∙ sym ((bytes_decides y n).0 yn)
    | inr yo ↦
        let zero : 0 ≡ i = some-same 0 i (sym (index-here n names x xn) ∙ a) in
        let more = shifted-some (index_of names y) i (sym (index-on n names y yo) ∙ b) in
        absurd (apart i more.0 zero more.2)
  ]
  | inr xo ↦ elim (cases_Bool (bytes_eq y n)) [
    | inl yn ↦
        let zero : 0 ≡ i = some-same 0 i (sym (index-here n names y yn) ∙ b) in
        let more = shifted-some (index_of names x) i (sym (index-on n names x xo) ∙ a) in
        absurd (apart i more.0 zero more.2)
    | inr yo ↦
        let p = shifted-some (index_of names x) i (sym (index-on n names x xo) ∙ a) in
        let q = shifted-some (index_of names y) i (sym (index-on n names y yo) ∙ b) in
        same-index names x y p.0 p.1
        (q.1 ∙ ap (λ j. Some j) (suc-same q.0 p.0 (sym q.2 ∙ p.2)))
  ]
]
  where
    apart : (i j : ℕ) → 0 ≡ i → i ≡ suc j → ⊥
    apart i j e f = omega (arith, e, f)

    suc-same : (i j : ℕ) → suc i ≡ suc j → i ≡ j
    suc-same i j e = omega (arith, e)

and-false : (b : Bool) → (b && false) ≡ false
and-false true = refl
and-false false = refl

and-true : (b : Bool) → (b && true) ≡ b
and-true true = refl
and-true false = refl

-- once a name is seen, the others are left
pub seen-without : (names : List (List ℕ)) (seen : List Bool) (name : List ℕ) (i : ℕ) →
    index_of names name ≡ Some i → i < length seen → (other : List ℕ) →
    is_unseen names (set seen i true) other ≡ without (is_unseen names seen) name other
seen-without names seen name i is below other = at (index_of names other) refl
  where
    at : (o : Option ℕ) → index_of names other ≡ o →
        option_map_or (λ j. not (get_or (set seen i true) j false)) o false
        ≡ (option_map_or (λ j. not (get_or seen j false)) o false && not (bytes_eq name other))
    at None e = refl
    at (Some j) e = elim (cases_Bool (j == i)) [
      | inl same ↦
          let names-same = same-index names name other i is
          (e ∙ ap (λ k. Some k) (eqb-true j i same)) in
          ap (λ k. not (get_or (set seen i true) k false)) (eqb-true j i same)
          ∙ ap not (get_or-set_same seen i true false below)
          ∙ sym (ap (λ b. not (get_or seen j false) && not b)
          ((bytes_decides name other).1 names-same) ∙ and-false (not (get_or seen j false)))
      | inr differ ↦ ap not (get_or-set_other seen i j true false (apart j i differ))
          ∙ sym (ap (λ b. not (get_or seen j false) && not b) (names-differ j e differ)
          ∙ and-true (not (get_or seen j false)))
    ]
      where
        apart : (j i : ℕ) → (j == i) ≡ false → j ≢ i
        apart j i differ = λ e. grind (arith, differ, e)

        names-differ : (j : ℕ) → index_of names other ≡ Some j → (j == i) ≡ false →
            bytes_eq name other ≡ false
        names-differ j e differ = elim (cases_Bool (bytes_eq name other)) [
          | inl same ↦
              let indices : Some j ≡ Some i = sym e
              ∙ ap (index_of names) (sym ((bytes_decides name other).0 same)) ∙ is in
              absurd (apart j i differ (some-same j i indices))
          | inr other ↦ other
        ]

-- ---- one attribute, and the others
pub attributes-one : (p : Attribute → Bool) (left : List ℕ → Bool) (name after rest end : List ℕ) →
    IsAttribute p left name after rest → AreAttributes p (without left name) rest end →
    AreAttributes p left (32 ∷ after) end
attributes-one p left name after rest end one are =
    let a : Attribute = record { name = name; value = one.value } in
    record {
      attributes = a ∷ are.attributes;
      is = ap (λ x. 32 ∷ x) (one.is
          ∙ ap (λ x. name ++ (61 ∷ 34 ∷ (one.value ++ (34 ∷ x)))) are.is) ∙ simp append_assoc refl;
      fresh = and_from (left name && is_escaped one.value)
          (are_left (without left name) are.attributes)
          (and_from (left name) (is_escaped one.value) one.fresh one.escaped) are.fresh;
      passes = and_from (p a) (list_all p are.attributes) one.passes are.passes;
    }

pub record AttributeFirst (p : Attribute → Bool) (left : List ℕ → Bool)
    (text end : List ℕ) : Type 0 where
  pub name : List ℕ
  pub after : List ℕ
  pub rest : List ℕ
  pub is : text ≡ 32 ∷ after
  pub one : IsAttribute p left name after rest
  pub more : AreAttributes p (without left name) rest end

pub attributes-first : (p : Attribute → Bool) (left : List ℕ → Bool) (text end : List ℕ) →
    AreAttributes p left text end → (text ≡ end) ⊎ AttributeFirst p left text end
attributes-first p left text end are = at are.attributes are.is are.fresh are.passes
  where
    at : (x : List Attribute) → text ≡ written_attributes x ++ end → are_left left x ≡ true →
        list_all p x ≡ true → (text ≡ end) ⊎ AttributeFirst p left text end
    at [] is fresh passes = inl is
    at (a ∷ x) is fresh passes =
        let own = and_parts (left a.name && is_escaped a.value) (are_left (without left a.name) x)
        fresh in
        let each = and_parts (left a.name) (is_escaped a.value) own.0 in
        let test = and_parts (p a) (list_all p x) passes in
        inr (record {
          name = a.name;
          after = a.name ++ (61 ∷ 34 ∷ (a.value ++ (34 ∷ (written_attributes x ++ end))));
          rest = written_attributes x ++ end;
          is = is ∙ simp append_assoc refl;
          one = record {
            value = a.value;
            is = refl;
            fresh = each.0;
            escaped = each.1;
            passes = test.0;
          };
          more = record { attributes = x; is = refl; fresh = own.1; passes = test.1 };
        })

-- ---- an attribute's parts
pub stops-name : (text : List ℕ) → begins_name text ≡ false → stops is_name_byte text ≡ true
stops-name [] e = refl
stops-name (b ∷ text) e = ap not e

pub record AttributeParts (p : Attribute → Bool) (left : List ℕ → Bool)
    (name after rest : List ℕ) : Type 0 where
  pub value : List ℕ
  pub is : after ≡ 61 ∷ 34 ∷ (value ++ (34 ∷ rest))
  pub fresh : left name ≡ true
  pub escaped : is_escaped value ≡ true
  pub passes : p (record { name = name; value = value }) ≡ true

pub attribute-parts : (p : Attribute → Bool) (left : List ℕ → Bool) →
    ((name : List ℕ) → left name ≡ true → list_all is_name_byte name ≡ true) →
    (text name after other rest : List ℕ) → IsSplitName text name after →
    IsAttribute p left other text rest → (name ≡ other) × AttributeParts p left name after rest
attribute-parts p left named text name after other rest split-name one =
    let same = split is_name_byte name other after (61 ∷ 34 ∷ (one.value ++ (34 ∷ rest)))
    split-name.named (named other one.fresh) (stops-name after split-name.stops) refl
    (sym split-name.is ∙ one.is) in (
      same.0,
      record {
        value = one.value;
        is = same.1;
        fresh = subst (λ n. left n ≡ true) (sym same.0) one.fresh;
        escaped = one.escaped;
        passes = subst (λ n. p (record { name = n; value = one.value }) ≡ true) (sym same.0)
            one.passes;
      },
    )

-- the value is the longest escaped text
pub value-same : (text value after other rest : List ℕ) → IsRun text value after →
    text ≡ other ++ (34 ∷ rest) → is_escaped other ≡ true → (value ≡ other) × (after ≡ 34 ∷ rest)
value-same text value after other rest run is escaped =
    same-run value after other (34 ∷ rest) (sym run.is ∙ is) run.escaped escaped run.stops refl

pub attribute-at : (p : Attribute → Bool) (names : List (List ℕ)) (seen : List Bool) (place : ℕ)
    (text name after quoted value ahead rest : List ℕ) → IsSplitName text name after →
    index_of names name ≡ Some place → get_or seen place false ≡ false →
    after ≡ 61 ∷ 34 ∷ quoted → IsRun quoted value ahead →
    p (record { name = name; value = value }) ≡ true → ahead ≡ 34 ∷ rest →
    IsAttributeAt p names seen place text rest
attribute-at p names seen place text name after quoted value ahead rest cut at fresh is run passes
    ends = record {
      name = name;
      is = record {
        value = value;
        is = cut.is ∙ ap (λ x. name ++ x) (is ∙ ap (λ x. 61 ∷ 34 ∷ x)
            (run.is ∙ ap (λ x. value ++ x) ends));
        fresh = ap (λ o. option_map_or (λ i. not (get_or seen i false)) o false) at ∙ ap not fresh;
        escaped = run.escaped;
        passes = passes;
      };
      at = at;
    }

-- ---- the loop
no-end : (p : Attribute → Bool) (left : List ℕ → Bool) →
    ((name : List ℕ) → left name ≡ true → list_all is_name_byte name ≡ true) →
    (name after rest : List ℕ) → IsAttribute p left name after rest →
    EndsAttributes (32 ∷ after) → ⊥
no-end p left named name after rest one (inl angle) = lie (ap (λ x. first x == 32) (sym angle.1))
  where
    first : List ℕ → ℕ
    first [] = 0
    first (b ∷ x) = b
no-end p left named name after rest one (inr slash) =
    slashed name (named name one.fresh) (sym (tail after (47 ∷ slash.0) slash.1) ∙ one.is)
  where
    tail : (x y : List ℕ) → 32 ∷ x ≡ 32 ∷ y → x ≡ y
    tail x y e = cc

    slashed : (name : List ℕ) → list_all is_name_byte name ≡ true →
        47 ∷ slash.0 ≡ name ++ (61 ∷ 34 ∷ (one.value ++ (34 ∷ rest))) → ⊥
    slashed [] h e = grind (arith, e)
    slashed (b ∷ name) h e =
        let head : 47 ≡ b = cc in
        let parts = and_parts (is_name_byte b) (list_all is_name_byte name) h in
        lie (subst (λ x. is_name_byte x ≡ true) (sym head) parts.0)

pub loop-back : (p : Attribute → Bool) (names : List (List ℕ)) (seen : List Bool) (place : ℕ)
    (after later end : List ℕ) → place < length seen →
    IsAttributeAt p names seen place after later →
    AreAttributes p (is_unseen names (set seen place true)) later end →
    AreAttributes p (is_unseen names seen) (32 ∷ after) end
loop-back p names seen place after later end below one are =
    attributes-one p (is_unseen names seen) one.name after later end one.is (record {
      attributes = are.attributes;
      is = are.is;
      fresh = sym (left-same _ _ (seen-without names seen one.name place one.at below)
          are.attributes) ∙ are.fresh;
      passes = are.passes;
    })

pub loop-forth : (p : Attribute → Bool) (names : List (List ℕ)) (seen : List Bool) (place : ℕ)
    (after later end : List ℕ) → list_all (list_all is_name_byte) names ≡ true →
    place < length seen → IsAttributeAt p names seen place after later → EndsAttributes end →
    AreAttributes p (is_unseen names seen) (32 ∷ after) end →
    AreAttributes p (is_unseen names (set seen place true)) later end
loop-forth p names seen place after later end listed below one ends are =
    elim (attributes-first p (is_unseen names seen) (32 ∷ after) end are) [
      | inl same ↦ absurd (no-end p (is_unseen names seen) named one.name after later one.is
          (subst EndsAttributes (sym same) ends))
      | inr first ↦ by first
    ]
  where
    named : (name : List ℕ) → is_unseen names seen name ≡ true → list_all is_name_byte name ≡ true
    named = unseen-passes names seen (list_all is_name_byte) listed

    tail : (x y : List ℕ) → 32 ∷ x ≡ 32 ∷ y → x ≡ y
    tail x y e = cc

    by : AttributeFirst p (is_unseen names seen) (32 ∷ after) end →
        AreAttributes p (is_unseen names (set seen place true)) later end
    by first =
        let texts : after ≡ first.after = tail after first.after first.is in
        let e : one.name ++ (61 ∷ 34 ∷ (one.is.value ++ (34 ∷ later)))
        ≡ first.name ++ (61 ∷ 34 ∷ (first.one.value ++ (34 ∷ first.rest))) = sym one.is.is ∙ texts
        ∙ first.one.is in
        let names-same = split is_name_byte one.name first.name _ _ (named one.name one.is.fresh)
        (named first.name first.one.fresh) refl refl e in
        let values-on : one.is.value ++ (34 ∷ later) ≡ first.one.value ++ (34 ∷ first.rest) =
        tail2 _ _ names-same.1 in
        let values-same = same-run one.is.value (34 ∷ later) first.one.value (34 ∷ first.rest)
        values-on one.is.escaped first.one.escaped refl refl in
        let rest-same : later ≡ first.rest = tail1 _ _ values-same.1 in
        record {
          attributes = first.more.attributes;
          is = rest-same ∙ first.more.is;
          fresh = left-same _ _ (seen-without names seen one.name place one.at below)
              first.more.attributes
              ∙ ap (λ n. are_left (without (is_unseen names seen) n) first.more.attributes)
              names-same.0 ∙ first.more.fresh;
          passes = first.more.passes;
        }
      where
        tail1 : (x y : List ℕ) → 34 ∷ x ≡ 34 ∷ y → x ≡ y
        tail1 x y e = cc

        tail2 : (x y : List ℕ) → 61 ∷ 34 ∷ x ≡ 61 ∷ 34 ∷ y → x ≡ y
        tail2 x y e = cc

-- what stands at the end of attributes has none
pub end-same : (p : Attribute → Bool) (left : List ℕ → Bool) →
    ((name : List ℕ) → left name ≡ true → list_all is_name_byte name ≡ true) →
    (text end : List ℕ) → EndsAttributes text → AreAttributes p left text end → text ≡ end
end-same p left named text end ends are = elim (attributes-first p left text end are) [
  | inl same ↦ same
  | inr first ↦ absurd (no-end p left named first.name first.after first.rest first.one
      (subst EndsAttributes first.is ends))
]

-- ---- where a loop leaves
pub none-out : {T : Type 0} {A : Type 0} (B : T → Type 0) (r : Option T) → r ≡ None → A →
    MatchOption r A B
none-out {T} {A} B r e a = subst (λ r. MatchOption r A B) (sym e) a

pub absent : (names : List (List ℕ)) (seen : List Bool) (name : List ℕ) →
    index_of names name ≡ None → is_unseen names seen name ≡ true → ⊥
absent names seen name none e =
    lie (sym (ap (λ o. option_map_or (λ i. not (get_or seen i false)) o false) none) ∙ e)

pub twice : (names : List (List ℕ)) (seen : List Bool) (name : List ℕ) (i : ℕ) →
    index_of names name ≡ Some i → get_or seen i false ≡ true →
    is_unseen names seen name ≡ true → ⊥
twice names seen name i is was e =
    lie (sym (ap (λ o. option_map_or (λ i. not (get_or seen i false)) o false) is ∙ ap not was) ∙ e)

pub listed-named : (list : Listed) → list_all (list_all is_name_byte) (listed list) ≡ true
listed-named Shared = refl
listed-named OfBlock = refl
listed-named OfRow = refl
listed-named OfCell = refl
listed-named OfTable = refl
listed-named OfCode = refl
listed-named OfList = refl
listed-named OfSecond = refl
listed-named OfDetails = refl
listed-named OfSection = refl
listed-named OfLink = refl
listed-named OfImage = refl
listed-named OfInput = refl

pub unseen-named : (list : Listed) (seen : List Bool) (name : List ℕ) →
    is_unseen (listed list) seen name ≡ true → list_all is_name_byte name ≡ true
unseen-named list seen name e =
    unseen-passes (listed list) seen (list_all is_name_byte) (listed-named list) name e

pub no-space : (p : Attribute → Bool) (left : List ℕ → Bool) (text end : List ℕ) →
    EndsAttributes end → AreAttributes p left text end → (EndsAttributes text → ⊥) →
    ((after : List ℕ) → text ≡ 32 ∷ after → ⊥) → ⊥
no-space p left text end ends are on none =
    elim (attributes-first p left text end are) [
      | inl same ↦ on (subst EndsAttributes (sym same) ends)
      | inr first ↦ none first.after first.is
    ]

pub no-attribute : (p : Attribute → Bool) (left : List ℕ → Bool) (text after end : List ℕ) →
    EndsAttributes end → AreAttributes p left text end → (EndsAttributes text → ⊥) →
    text ≡ 32 ∷ after →
    ((name rest : List ℕ) → IsAttribute p left name after rest → ⊥) → ⊥
no-attribute p left text after end ends are on is none =
    elim (attributes-first p left text end are) [
      | inl same ↦ on (subst EndsAttributes (sym same) ends)
      | inr first ↦ none first.name first.rest
          (subst (λ x. IsAttribute p left first.name x first.rest)
          (tail first.after after (sym first.is ∙ is)) first.one)
    ]
  where
    tail : (x y : List ℕ) → 32 ∷ x ≡ 32 ∷ y → x ≡ y
    tail x y e = cc

get_or-false : (x : List Bool) → list_all not x ≡ true → (i : ℕ) → get_or x i false ≡ false
get_or-false [] h i = refl
get_or-false (b ∷ x) h zero = not-true b (and_parts (not b) (list_all not x) h).0
  where
    not-true : (b : Bool) → not b ≡ true → b ≡ false
    not-true true e = lie e
    not-true false e = refl
get_or-false (b ∷ x) h (suc i) = get_or-false x (and_parts (not b) (list_all not x) h).1 i

pub init-back : (p : Attribute → Bool) (names : List (List ℕ)) (seen : List Bool)
    (text end : List ℕ) → list_all not seen ≡ true →
    AreAttributes p (is_unseen names seen) text end → AreAttributes p (is_one_of names) text end
init-back p names seen text end h are = record {
  attributes = are.attributes;
  is = are.is;
  fresh = sym (left-same _ _ (none-seen names seen (get_or-false seen h)) are.attributes)
      ∙ are.fresh;
  passes = are.passes;
}

pub init-forth : (p : Attribute → Bool) (names : List (List ℕ)) (seen : List Bool)
    (text end : List ℕ) → list_all not seen ≡ true →
    AreAttributes p (is_one_of names) text end → AreAttributes p (is_unseen names seen) text end
init-forth p names seen text end h are = record {
  attributes = are.attributes;
  is = are.is;
  fresh = left-same _ _ (none-seen names seen (get_or-false seen h)) are.attributes ∙ are.fresh;
  passes = are.passes;
}

-- ---- an index in a list
pub index-at : (names : List (Bor (List ℕ))) (name : List ℕ) (i : ℕ) (d : Bor (List ℕ)) →
    list_any (λ other. bytes_eq name other.now) (take i names) ≡ false → i < length names →
    bytes_eq name (get_or names i d).now ≡ true →
    index_of (map (λ other. other.now) names) name ≡ Some i
index-at [] name i d none below e = absurd (omega (arith, below))
index-at (n ∷ names) name zero d none below e = rw e refl
index-at (n ∷ names) name (suc i) d none below e =
    let parts = or-parts (bytes_eq name n.now)
    (list_any (λ other. bytes_eq name other.now) (take i names)) none in
    rw parts.0 (ap (λ o. option_map (λ j. suc j) o)
    (index-at names name i d parts.1 (omega (arith, below)) e))

pub index-none : (names : List (Bor (List ℕ))) (name : List ℕ) →
    list_any (λ other. bytes_eq name other.now) names ≡ false →
    index_of (map (λ other. other.now) names) name ≡ None
index-none [] name none = refl
index-none (n ∷ names) name none =
    let parts = or-parts (bytes_eq name n.now)
    (list_any (λ other. bytes_eq name other.now) names) none in
    rw parts.0 (ap (λ o. option_map (λ j. suc j) o) (index-none names name parts.1))

-- a name has an index exactly if it is listed
pub index-some : (names : List (List ℕ)) (name : List ℕ) →
    is_some (index_of names name) ≡ is_one_of names name
index-some [] name = refl
index-some (n ∷ names) name = elim (cases_Bool (bytes_eq name n)) [
  | inl e ↦ rw e refl
  | inr e ↦ rw e (later (index_of names name) ∙ index-some names name)
]
  where
    later : (o : Option ℕ) → is_some (option_map (λ j. suc j) o) ≡ is_some o
    later None = refl
    later (Some j) = refl
