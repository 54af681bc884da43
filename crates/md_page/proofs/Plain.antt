-- Names and attributes of pieces: the tokenizer takes them as they are, and so are those of the
-- grammar's tables.
use Rattle.std.specs.Str.{bytes_eq}
use Rattle.std.proofs.Common.{◌≡◌, ℕ, Bool, true, false, ◌&&◌, List, [], ◌∷◌, refl, arith}
use Rattle.std.specs.List.{list_all, list_any}
use Rattle.std.proofs.lemmas.Bool.{and_parts}
use Rattle.std.proofs.lemmas.Bool.Decides.{nat_tests}
use Rattle.md_base.proofs.Lies.{lie}
use Rattle.md_text.specs.Bytes.{is_one_of}
use Rattle.md_text.specs.References.{is_escaped}
use Rattle.md_text.specs.Html.{Attribute, is_tag, are_attributes, elements, void_tags}
use Rattle.md_safe.proofs.Cases.{one_of-passes, all-weaker}
use Rattle.md_safe.proofs.GoodNames.{is_good_byte, is_good_name, begins_tag, are_good, by_rule}
use Rattle.md_page.specs.Pieces.{is_name_byte, is_name, is_tag_name, begins_with_letter, are_plain}
use Rattle.md_page.specs.Pieces.{void_names}

-- the parts of a test of three
pub and3 : (a b c : Bool) → (a && (b && c)) ≡ true → (a ≡ true) × (b ≡ true) × (c ≡ true)
and3 a b c h = grind arith

-- ---- bytes of names

good_bytes : (name : List ℕ) → list_all is_name_byte name ≡ true → list_all is_good_byte name ≡ true
good_bytes name h = all-weaker is_name_byte is_good_byte (λ b own. grind (arith, nat_tests)) name h

begins : (name : List ℕ) → begins_with_letter name ≡ true → begins_tag name ≡ true
begins [] h = lie h
begins (b ∷ rest) h = grind (arith, nat_tests)

pub good_name : (name : List ℕ) → is_tag_name name ≡ true → is_good_name name ≡ true
good_name name h = grind (arith, good_bytes)

pub name_bytes : (name : List ℕ) → is_tag_name name ≡ true → list_all is_name_byte name ≡ true
name_bytes name h = (and3 (begins_with_letter name) (list_all is_name_byte name) _ h).1

-- the first attribute and the others
pub plain_attribute : (a : Attribute) (x : List Attribute) → are_plain (a ∷ x) ≡ true →
    (is_name a.name ≡ true) × (is_escaped a.value ≡ true)
    × (list_any (λ later. bytes_eq a.name later.name) x ≡ false) × (are_plain x ≡ true)
plain_attribute a x h = grind arith

pub good_attributes : (x : List Attribute) → are_plain x ≡ true → are_good x ≡ true
good_attributes [] h = refl
good_attributes (a ∷ x) h = grind (arith, good_bytes, good_attributes x)

-- ---- the tables

attributes-plain : (listed : List (List ℕ)) (x : List Attribute) → list_all is_name listed ≡ true →
    are_attributes listed x ≡ true → are_plain x ≡ true
attributes-plain listed [] g e = refl
attributes-plain listed (a ∷ x) g e = grind (arith, one_of-passes, attributes-plain listed x g)

-- each rule has a name that passes a test, and names of attributes
tag-plain : (named : List ℕ → Bool) (rules : List (List ℕ × List (List ℕ))) (name : List ℕ)
    (x : List Attribute) →
    list_all (λ rule. named rule.0 && list_all is_name rule.1) rules ≡ true →
    is_tag rules name x ≡ true → (named name ≡ true) × (are_plain x ≡ true)
tag-plain named rules name x g e =
    by_rule (λ name. (named name ≡ true) × (are_plain x ≡ true))
    (λ rule. named rule.0 && list_all is_name rule.1) rules name x g
    (λ rule good allowed. (let p = and_parts _ _ good in
    (p.0, attributes-plain rule.1 x p.1 allowed))) e

pub element-plain : (name : List ℕ) (x : List Attribute) → is_tag elements name x ≡ true →
    (is_tag_name name ≡ true) × (are_plain x ≡ true)
element-plain name x e = tag-plain is_tag_name elements name x refl e

pub void-plain : (name : List ℕ) (x : List Attribute) → is_tag void_tags name x ≡ true →
    (is_one_of void_names name ≡ true) × (are_plain x ≡ true)
void-plain name x e = tag-plain (is_one_of void_names) void_tags name x refl e

-- what each name of a void tag passes
pub void-name : (named : List ℕ → Bool) (name : List ℕ) → list_all named void_names ≡ true →
    is_one_of void_names name ≡ true → named name ≡ true
void-name named name g e = one_of-passes named void_names name g e
