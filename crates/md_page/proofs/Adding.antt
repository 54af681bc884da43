-- One more attribute in the pieces that a test picks is one more in their tokens.
use Rattle.std.specs.Str.{bytes_eq}
use Rattle.std.proofs.Common.{◌≡◌, ℕ, suc, Bool, true, false, cond, List, [], ◌∷◌, ◌++◌, arith}
use Rattle.std.proofs.Common.{map, filter, refl, sym, ap, ◌∙◌}
use Rattle.std.specs.List.{list_all, list_any}
use Rattle.std.specs.Cmp.Lexicographic.{bytes_decides}
use Rattle.std.proofs.lemmas.Bool.{and_from, cond-false, false_from_ne_true}
use Rattle.std.proofs.lemmas.List.Folds.{list_all-append, list_any-append}
use Rattle.md_base.proofs.Lies.{lie}
use Rattle.md_text.specs.References.{is_escaped}
use Rattle.md_text.specs.Html.{Attribute}
use Rattle.md_safe.specs.Token.{Token, Character, StartTag, TokenAttribute}
use Rattle.md_safe.specs.Tokens.{seen, seen_attributes}
use Rattle.md_safe.specs.SafeTokens.{attributes_pass}
use Rattle.md_page.specs.Added.{with_attribute, added}
use Rattle.md_page.specs.Attributed.{is_addition, is_listed_beside}
use Rattle.md_page.specs.Pieces.{Piece, Words, Opening, Single, Closing, are_plain, is_name}
use Rattle.md_page.proofs.Tags.{PicksBy}

-- an attribute as a tokenizer sees it
abbrev pub seen_attribute : Attribute → TokenAttribute
seen_attribute a = record { name = a.name; value = seen a.value }

abbrev pub seen_new : (ℕ → Attribute) → ℕ → TokenAttribute
seen_new new n = seen_attribute (new n)

-- pieces, each start tag of an element that passes the test with one more attribute
abbrev pub changed : (Token → Bool) → (ℕ → Attribute) → ℕ → List Piece → List Piece
changed test new n [] = []
changed test new n (Words text ∷ more) = Words text ∷ changed test new n more
changed test new n (Opening name x ∷ more) = cond (test (StartTag name (seen_attributes x) false))
    (Opening name (x ++ (new n ∷ [])) ∷ changed test new (suc n) more)
    (Opening name x ∷ changed test new n more)
changed test new n (Single name x ∷ more) = Single name x ∷ changed test new n more
changed test new n (Closing name ∷ more) = Closing name ∷ changed test new n more

-- attributes that may be added where the test passes
pub record MayAdd (test : Token → Bool) (new : ℕ → Attribute) : Type 0 where
  pub named : (n : ℕ) → is_name (new n).name ≡ true
  pub escaped : (n : ℕ) → is_escaped (new n).value ≡ true
  pub fresh : (n : ℕ) (name : List ℕ) (x : List Attribute) →
      test (StartTag name (seen_attributes x) false) ≡ true →
      list_any (λ a. bytes_eq (new n).name a.name) x ≡ false

-- ---- tokens

pub seen-append : (x y : List Attribute) →
    seen_attributes (x ++ y) ≡ seen_attributes x ++ seen_attributes y
seen-append [] y = refl
seen-append (a ∷ x) y = ap (λ z. seen_attribute a ∷ z) (seen-append x y)

-- a token that does not pass stays
pub added-other :
    (test : Token → Bool) (attribute : ℕ → TokenAttribute) (n : ℕ) (t : Token) (ts : List Token) →
    test t ≡ false → added test attribute n (t ∷ ts) ≡ t ∷ added test attribute n ts
added-other test attribute n t ts e = cond-false (test t) _ _ e

pub added-characters : {picks : List ℕ → Bool}
    (test : Token → Bool) (attribute : ℕ → TokenAttribute) (n : ℕ) (x : List ℕ) (ts : List Token) →
    PicksBy picks test →
    added test attribute n (map Character x ++ ts) ≡ map Character x ++ added test attribute n ts
added-characters test attribute n [] ts p = refl
added-characters test attribute n (b ∷ x) ts p =
    grind (arith, added-characters test attribute n x ts p)

-- ---- attributes

pub other-way : (x y : List ℕ) → bytes_eq x y ≡ false → bytes_eq y x ≡ false
other-way x y h =
    false_from_ne_true _ (λ e. lie (sym h ∙ (bytes_decides x y).1 (sym ((bytes_decides y x).0 e))))

pub plain-more : (x : List Attribute) (a : Attribute) → are_plain x ≡ true → is_name a.name ≡ true →
    is_escaped a.value ≡ true → list_any (λ b. bytes_eq a.name b.name) x ≡ false →
    are_plain (x ++ (a ∷ [])) ≡ true
plain-more [] a h named escaped fresh = and_from _ _ named (and_from _ _ escaped refl)
plain-more (b ∷ x) a h named escaped fresh =
    grind (arith, other-way, list_any-append, plain-more x a)

-- ---- tests of tokens

-- what each token passes, and each that gets an attribute still does, all pass then
pub added-all : (p test : Token → Bool) (attribute : ℕ → TokenAttribute) (n : ℕ) (x : List Token) →
    ((k : ℕ) (t : Token) → test t ≡ true → p t ≡ true → p (with_attribute t (attribute k)) ≡ true) →
    list_all p x ≡ true → list_all p (added test attribute n x) ≡ true
added-all p test attribute n [] f h = refl
added-all p test attribute n (t ∷ x) f h =
    grind (arith, added-all p test attribute (suc n) x f, added-all p test attribute n x f)

-- one more attribute that passes
pub passes-more : (q : TokenAttribute → Bool) (t : Token) (a : TokenAttribute) → q a ≡ true →
    attributes_pass q t ≡ true → attributes_pass q (with_attribute t a) ≡ true
passes-more q (StartTag name x flag) a k h = simp list_all-append (grind (arith, k, h))
passes-more q t a k h = refl

-- one more attribute that is left out
filter-more : (keep : TokenAttribute → Bool) (x : List TokenAttribute) (a : TokenAttribute) →
    keep a ≡ false →
    filter keep (x ++ (a ∷ [])) ≡ filter keep x
filter-more keep [] a k = cond-false (keep a) _ _ k
filter-more keep (b ∷ x) a k = ap (λ y. cond (keep b) (b ∷ y) y) (filter-more keep x a k)

-- what a start tag of this name may get
abbrev pub is_addition_to : Token → TokenAttribute → Bool
is_addition_to token a = elim token [ StartTag name x flag ↦ is_addition name a | _ ↦ true ]

pub listed-more : (t : Token) (a : TokenAttribute) → is_addition_to t a ≡ true →
    is_listed_beside t ≡ true →
    is_listed_beside (with_attribute t a) ≡ true
listed-more t a k h = grind (arith, filter-more)
