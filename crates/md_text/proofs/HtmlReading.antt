-- No text has two readings: what is written from a place on says which node comes,
-- and where it ends.
use Rattle.md_base.specs.Identifier.{is_nonempty}
use Rattle.std.proofs.Common.{arith, Bool, ◌≡◌, ◌⊎◌, ℕ, true, not, List, [], ◌∷◌, ◌++◌, refl, sym}
use Rattle.std.proofs.Common.{◌∙◌, subst, inl, inr, append-nil}
use Rattle.std.specs.List.{list_all}
use Rattle.std.proofs.lemmas.Bool.{and_parts, and_from}
use Rattle.md_text.specs.Html.{Attribute, Forest, Empty, Text, Void, Element, is_forest}
use Rattle.md_text.specs.Html.{begins_with_text, written, IsReading}
use Rattle.md_text.specs.Html.{HasReadingWith, HasOneReadingWith, any_attribute, all_attributes}
use Rattle.md_text.proofs.HtmlNames.{is_name, is_name_byte, no_angle, are_tidy, element-tidy}
use Rattle.md_text.proofs.HtmlNames.{void-tidy, escaped-angle}
use Rattle.md_text.proofs.HtmlSplit.{stops, split, EndsAttributes, same_attributes}
use Rattle.md_text.proofs.HtmlWriting.{attributes_before, forest_before, written-before}

-- where a forest ends: the text ends, or a closing tag begins
abbrev pub IsEnd : List ℕ → Type 0
IsEnd r = (r ≡ []) ⊎ ((more : List ℕ) × (r ≡ 60 ∷ 47 ∷ more))

pub tail_of : (b c : ℕ) (x y : List ℕ) → b ∷ x ≡ c ∷ y → x ≡ y
tail_of b c x y e = cc

-- a tag doesn't begin where a forest ends
tag_not_end : (name tail r : List ℕ) → is_name name ≡ true → IsEnd r → r ≡ 60 ∷ (name ++ tail) → ⊥
tag_not_end name tail r h ends e = grind arith

-- neither a text nor where a forest ends begins with what the other does
text_not_tag : (bytes tail more : List ℕ) → is_nonempty bytes ≡ true →
    list_all no_angle bytes ≡ true →
    bytes ++ tail ≡ 60 ∷ more → ⊥
text_not_tag bytes tail more f h e = grind arith

text_not_end : (bytes tail r : List ℕ) → is_nonempty bytes ≡ true →
    list_all no_angle bytes ≡ true → IsEnd r →
    r ≡ bytes ++ tail → ⊥
text_not_end bytes tail r f h ends e = grind (arith, text_not_tag)

-- what comes after a text begins with `<` or is the end
pub after_text : (f : Forest) (r : List ℕ) → not (begins_with_text f) ≡ true → IsEnd r →
    stops no_angle (forest_before f r) ≡ true
after_text f r h ends = grind arith

-- attributes follow a name, or the tag continues
pub attributes_stop : (attributes : List Attribute) (r : List ℕ) → EndsAttributes r →
    stops is_name_byte (attributes_before attributes r) ≡ true
attributes_stop [] r ends = elim ends [
  | inl angle ↦ subst (λ r. stops is_name_byte r
      ≡ true) (sym angle.1) refl
  | inr slash ↦ subst (λ r. stops is_name_byte r ≡ true) (sym slash.1) refl
]
attributes_stop (a ∷ rest) r ends = refl

same_tag : (n m : List ℕ) (x y : List Attribute) (r s : List ℕ) →
    (is_name n ≡ true) × (are_tidy x ≡ true) →
    (is_name m ≡ true) × (are_tidy y ≡ true) → EndsAttributes r → EndsAttributes s
    → n ++ attributes_before x r ≡ m ++ attributes_before y s → (n ≡ m) × (x ≡ y) × (r ≡ s)
same_tag n m x y r s hn hm er es e =
    let names = split is_name_byte n m _ _ (grind (arith, hn)) (grind (arith, hm))
    (attributes_stop x r er) (attributes_stop y s es) e in
    let attributes = same_attributes x y r s hn.1 hm.1 er es names.1 in
    (names.0, attributes.0, attributes.1)

-- the parts of what makes a forest
pub record IsTextNode (bytes : List ℕ) (rest : Forest) : Type 0 where
  pub filled : is_nonempty bytes ≡ true
  pub angles : list_all no_angle bytes ≡ true
  pub alone : not (begins_with_text rest) ≡ true
  pub later : is_forest rest ≡ true

pub text_parts : (bytes : List ℕ) (rest : Forest) → is_forest (Text bytes rest) ≡ true →
    IsTextNode bytes rest
text_parts bytes rest h = grind (arith, and_parts, escaped-angle)

pub record IsElementNode (name : List ℕ) (attributes : List Attribute)
    (children rest : Forest) : Type 0 where
  pub tidy : (is_name name ≡ true) × (are_tidy attributes ≡ true)
  pub inside : is_forest children ≡ true
  pub later : is_forest rest ≡ true

pub element_parts : (name : List ℕ) (attributes : List Attribute) (children rest : Forest) →
    is_forest (Element name attributes children rest) ≡ true →
    IsElementNode name attributes children rest
element_parts name attributes children rest h = grind (arith, and_parts, element-tidy)

pub record IsVoidNode (name : List ℕ) (attributes : List Attribute) (rest : Forest) : Type 0 where
  pub tidy : (is_name name ≡ true) × (are_tidy attributes ≡ true)
  pub later : is_forest rest ≡ true

pub void_parts : (name : List ℕ) (attributes : List Attribute) (rest : Forest) →
    is_forest (Void name attributes rest) ≡ true → IsVoidNode name attributes rest
void_parts name attributes rest h = grind (arith, and_parts, void-tidy)

slash_angle : (x y : List ℕ) → 32 ∷ x ≡ 62 ∷ y → ⊥
slash_angle x y e = cc

same : (f g : Forest) (r s : List ℕ) → is_forest f ≡ true → is_forest g ≡ true → IsEnd r → IsEnd s →
    forest_before f r ≡ forest_before g s → (f ≡ g) × (r ≡ s)
same Empty Empty r s hf hg er es e = (refl, e)
same Empty (Text bytes rest) r s hf hg er es e =
    let p = text_parts bytes rest hg in
    absurd (text_not_end bytes (forest_before rest s) r p.filled p.angles er e)
same Empty (Void name attributes rest) r s hf hg er es e =
    absurd (tag_not_end name _ r (void_parts name attributes rest hg).tidy.0 er e)
same Empty (Element name attributes children rest) r s hf hg er es e =
    absurd (tag_not_end name _ r (element_parts name attributes children rest hg).tidy.0 er e)
same (Text bytes rest) Empty r s hf hg er es e =
    let p = text_parts bytes rest hf in
    absurd (text_not_end bytes (forest_before rest r) s p.filled p.angles es (sym e))
same (Text bytes rest) (Text bytes' rest') r s hf hg er es e =
    let p = text_parts bytes rest hf in
    let q = text_parts bytes' rest' hg in
    let parts = split no_angle bytes bytes' (forest_before rest r) (forest_before rest' s) p.angles
    q.angles (after_text rest r p.alone er) (after_text rest' s q.alone es) e in
    let later = same rest rest' r s p.later q.later er es parts.1 in
    ((λ i. Text (parts.0 i) (later.0 i)), later.1)
same (Text bytes rest) (Void name attributes rest') r s hf hg er es e =
    let p = text_parts bytes rest hf in
    absurd (text_not_tag bytes (forest_before rest r) _ p.filled p.angles e)
same (Text bytes rest) (Element name attributes children rest') r s hf hg er es e =
    let p = text_parts bytes rest hf in
    absurd (text_not_tag bytes (forest_before rest r) _ p.filled p.angles e)
same (Void name attributes rest) Empty r s hf hg er es e =
    absurd (tag_not_end name _ s (void_parts name attributes rest hf).tidy.0 es (sym e))
same (Void name attributes rest) (Text bytes rest') r s hf hg er es e =
    let p = text_parts bytes rest' hg in
    absurd (text_not_tag bytes (forest_before rest' s) _ p.filled p.angles (sym e))
same (Void name attributes rest) (Void name' attributes' rest') r s hf hg er es e =
    let p = void_parts name attributes rest hf in
    let q = void_parts name' attributes' rest' hg in
    let tag = same_tag name name' attributes attributes' (32 ∷ 47 ∷ 62 ∷ forest_before rest r)
    (32 ∷ 47 ∷ 62 ∷ forest_before rest' s) p.tidy q.tidy
    (inr (62 ∷ forest_before rest r, refl)) (inr (62 ∷ forest_before rest' s, refl)) (cc) in
    let later = same rest rest' r s p.later q.later er es (cc tag.2) in
    ((λ i. Void (tag.0 i) (tag.1 i) (later.0 i)), later.1)
same (Void name attributes rest) (Element name' attributes' children rest') r s hf hg er es e =
    let p = void_parts name attributes rest hf in
    let q = element_parts name' attributes' children rest' hg in
    let inside = forest_before children (60 ∷ 47 ∷ (name' ++ (62 ∷ forest_before rest' s))) in
    let tag = same_tag name name' attributes attributes' (32 ∷ 47 ∷ 62 ∷ forest_before rest r) (62
    ∷ inside) p.tidy q.tidy
    (inr (62 ∷ forest_before rest r, refl)) (inl (inside, refl)) (tail_of 60 60 _ _ e) in
    absurd (slash_angle _ _ tag.2)
same (Element name attributes children rest) Empty r s hf hg er es e =
    absurd (tag_not_end name _ s (element_parts name attributes children rest hf).tidy.0 es (sym e))
same (Element name attributes children rest) (Text bytes rest') r s hf hg er es e =
    let p = text_parts bytes rest' hg in
    absurd (text_not_tag bytes (forest_before rest' s) _ p.filled p.angles (sym e))
same (Element name attributes children rest) (Void name' attributes' rest') r s hf hg er es e =
    let p = element_parts name attributes children rest hf in
    let q = void_parts name' attributes' rest' hg in
    let inside = forest_before children (60 ∷ 47 ∷ (name ++ (62 ∷ forest_before rest r))) in
    let tag = same_tag name name' attributes attributes' (62 ∷ inside) (32 ∷ 47 ∷ 62
    ∷ forest_before rest' s) p.tidy q.tidy
    (inl (inside, refl)) (inr (62 ∷ forest_before rest' s, refl)) (tail_of 60 60 _ _ e) in
    absurd (slash_angle _ _ (sym tag.2))
same (Element name attributes children rest) (Element name' attributes' children' rest') r s
    hf hg er es e =
    let p = element_parts name attributes children rest hf in
    let q = element_parts name' attributes' children' rest' hg in
    let close = name ++ (62 ∷ forest_before rest r) in
    let close' = name' ++ (62 ∷ forest_before rest' s) in
    let inside = forest_before children (60 ∷ 47 ∷ close) in
    let inside' = forest_before children' (60 ∷ 47 ∷ close') in
    let tag = same_tag name name' attributes attributes' (62 ∷ inside) (62 ∷ inside') p.tidy q.tidy
    (inl (inside, refl)) (inl (inside', refl)) (tail_of 60 60 _ _ e) in
    let within = same children children' (60 ∷ 47 ∷ close) (60 ∷ 47 ∷ close') p.inside q.inside
    (inr (close, refl)) (inr (close', refl)) (tail_of 62 62 inside inside' tag.2) in
    let closes : close ≡ close' = cc within.1 in
    let ends = split is_name_byte name name' _ _ (grind (arith, p.tidy)) (grind (arith, q.tidy))
    refl refl closes in
    let later = same rest rest' r s p.later q.later er es (tail_of 62 62 _ _ ends.1) in
    ((λ i. Element (tag.0 i) (tag.1 i) (within.0 i) (later.0 i)), later.1)

pub one_reading : (text : List ℕ) (f g : Forest) → IsReading text f → IsReading text g → f ≡ g
one_reading text f g x y =
    (same f g [] [] x.in_grammar y.in_grammar (inl refl) (inl refl)
    (sym (written-before f []) ∙ append-nil (written f) ∙ x.written_so ∙ sym y.written_so
    ∙ sym (append-nil (written g)) ∙ written-before g [])).0

pub only_reading : (p : Attribute → Bool) (text : List ℕ) → HasReadingWith p text →
    HasOneReadingWith p text
only_reading p text h = grind (arith, one_reading)

any_all : (attributes : List Attribute) → list_all any_attribute attributes ≡ true
any_all [] = refl
any_all (a ∷ rest) = any_all rest

-- any forest passes if there is no condition
pub all-any : (f : Forest) → all_attributes any_attribute f ≡ true
all-any Empty = grind (arith, and_from, any_all)
all-any (Text bytes rest) = grind (arith, and_from, any_all, all-any rest)
all-any (Void name attributes rest) = grind (arith, and_from, any_all, all-any rest)
all-any (Element name attributes children rest) =
    grind (arith, and_from, any_all, all-any children, all-any rest)
