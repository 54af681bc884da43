-- The names of the tables: the tokenizer takes each as it is, and none gives it another state.
use Rattle.std.specs.Str.{bytes_eq}
use Rattle.std.proofs.Common.{◌≡◌, ℕ, ◌==◌, Bool, true, false, not, ◌&&◌, List, [], ◌∷◌, refl}
use Rattle.std.proofs.Common.{subst, codes, arith}
use Rattle.std.specs.List.{list_all, list_any}
use Rattle.std.specs.Cmp.Lexicographic.{bytes_decides}
use Rattle.std.proofs.lemmas.Bool.{and_parts, or_parts, not-true}
use Rattle.md_base.proofs.Lies.{lie}
use Rattle.md_base.specs.Identifier.{is_nonempty}
use Rattle.md_text.specs.Bytes.{is_between, is_letter, is_one_of}
use Rattle.md_text.specs.References.{is_escaped}
use Rattle.md_text.specs.Html.{Attribute, is_tag, are_attributes, elements, void_tags}
use Rattle.md_safe.proofs.Cases.{either, one_of-passes}
use Rattle.md_safe.specs.TokenizerStates.{is_space, switching}

-- a byte of a name that ends no name and stays as it is
abbrev pub is_good_byte : ℕ → Bool
is_good_byte b = not (is_space b) && (not (b == 47) && (not (b == 62) && (not (b == 61)
    && (not (is_between 65 90 b) && (not (b == 0) && not (b == 13))))))

-- after `<` or `</` it begins a tag
abbrev pub begins_tag : List ℕ → Bool
begins_tag [] = false
begins_tag (b ∷ rest) = not (b == 33) && (not (b == 47) && is_letter b)

abbrev pub is_good_name : List ℕ → Bool
is_good_name name =
    begins_tag name && (list_all is_good_byte name && not (is_one_of switching name))

abbrev pub is_good_attribute_name : List ℕ → Bool
is_good_attribute_name name = is_nonempty name && list_all is_good_byte name

-- good names, all different, and escaped values
abbrev pub are_good : List Attribute → Bool
are_good [] = true
are_good (a ∷ rest) = is_good_attribute_name a.name && (is_escaped a.value
    && (not (list_any (λ later. bytes_eq a.name later.name) rest) && are_good rest))

-- the first attribute and the others
pub good_attribute : (a : Attribute) (x : List Attribute) → are_good (a ∷ x) ≡ true →
    (is_good_attribute_name a.name ≡ true) × (is_escaped a.value ≡ true)
    × (list_any (λ later. bytes_eq a.name later.name) x ≡ false) × (are_good x ≡ true)
good_attribute a x g = grind arith

abbrev rule_is_good : List ℕ × List (List ℕ) → Bool
rule_is_good rule = is_good_name rule.0 && list_all is_good_attribute_name rule.1

attributes-good : (listed : List (List ℕ)) (attributes : List Attribute) →
    list_all is_good_attribute_name listed ≡ true → are_attributes listed attributes ≡ true →
    are_good attributes ≡ true
attributes-good listed [] g e = refl
attributes-good listed (a ∷ rest) g e = grind (arith, one_of-passes, attributes-good listed rest g)

-- what holds of the name of each rule that allows some attributes holds of the name of a tag
pub by_rule : (P : List ℕ → Type 0) (test : List ℕ × List (List ℕ) → Bool)
    (rules : List (List ℕ × List (List ℕ))) (name : List ℕ) (attributes : List Attribute) →
    list_all test rules ≡ true → ((rule : List ℕ × List (List ℕ)) → test rule ≡ true →
    are_attributes rule.1 attributes ≡ true → P rule.0) → is_tag rules name attributes ≡ true →
    P name
by_rule P test [] name attributes g f e = lie e
by_rule P test (rule ∷ rules) name attributes g f e =
    let p = and_parts _ _ g in
    either _ _ e (λ this. let r = and_parts _ _ this in
    subst P ((bytes_decides rule.0 name).0 r.0) (f rule p.0 r.1))
    (by_rule P test rules name attributes p.1 f)

tag-good : (rules : List (List ℕ × List (List ℕ))) (name : List ℕ) (attributes : List Attribute) →
    list_all rule_is_good rules ≡ true → is_tag rules name attributes ≡ true →
    (is_good_name name ≡ true) × (are_good attributes ≡ true)
tag-good rules name attributes g e = by_rule (λ name. (is_good_name name ≡ true) × (are_good
    attributes ≡ true)) rule_is_good rules name attributes g
    (grind (arith, and_parts, attributes-good)) e

pub element-good : (name : List ℕ) (attributes : List Attribute) →
    is_tag elements name attributes ≡ true →
    (is_good_name name ≡ true) × (are_good attributes ≡ true)
element-good name attributes e = tag-good elements name attributes refl e

pub void-good : (name : List ℕ) (attributes : List Attribute) →
    is_tag void_tags name attributes ≡ true →
    (is_good_name name ≡ true) × (are_good attributes ≡ true)
void-good name attributes e = tag-good void_tags name attributes refl e

-- no such name is one at which the state may be switched
pub good-leaves : (name : List ℕ) → is_good_name name ≡ true → not (is_one_of switching name) ≡ true
good-leaves name g = (and_parts _ _ (and_parts _ _ g).1).1

pub good-not_title : (name : List ℕ) → is_good_name name ≡ true →
    bytes_eq name (codes "title") ≡ false
good-not_title name g = (or_parts _ _ (not-true _ (good-leaves name g))).0
