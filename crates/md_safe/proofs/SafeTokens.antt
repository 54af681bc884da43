-- A safe attribute is one of a safe token.
use Rattle.std.specs.Str.{bytes_eq}
use Rattle.std.proofs.Common.{◌≡◌, ℕ, Bool, true, cond, List, [], ◌∷◌, refl, codes, arith}
use Rattle.std.specs.List.{list_all}
use Rattle.md_text.specs.References.{is_escaped}
use Rattle.md_text.specs.Html.{Attribute, HasOneReadingWith}
use Rattle.md_text.specs.Safe.{is_safe_link, is_safe_image, is_safe_value}
use Rattle.md_text.specs.Url.{link_protocols, image_protocols}
use Rattle.md_safe.specs.Token.{Token}
use Rattle.md_safe.specs.Tokenizer.{IsTokenized}
use Rattle.md_safe.specs.Tokens.{seen, seen_attributes}
use Rattle.md_safe.specs.Scheme.{has_permitted_scheme}
use Rattle.md_safe.specs.SafeTokens.{is_permitted, attributes_pass, has_safe_links, has_safe_images}
use Rattle.md_safe.proofs.GoodNames.{are_good, good_attribute, element-good, void-good}
use Rattle.md_safe.proofs.Schemes.{permitted-link, permitted-image}
use Rattle.md_safe.proofs.TokenTests.{PassesTags, all-tokenized}

-- the test of the grammar and that of tokens, of attributes with one name
abbrev is_safe : List ℕ → List (List ℕ) → Attribute → Bool
is_safe name schemes a = cond (bytes_eq a.name name) (is_safe_value schemes a.value) true

abbrev Permits : List (List ℕ) → Type 0
Permits schemes = (value : List ℕ) → is_escaped value ≡ true → is_safe_value schemes value ≡ true →
    has_permitted_scheme schemes (seen value) ≡ true

attributes-permitted : (name : List ℕ) (schemes : List (List ℕ)) → Permits schemes →
    (x : List Attribute) → are_good x ≡ true → list_all (is_safe name schemes) x ≡ true →
    list_all (is_permitted name schemes) (seen_attributes x) ≡ true
attributes-permitted name schemes f [] g h = refl
attributes-permitted name schemes f (a ∷ x) g h =
    let p = good_attribute a x g in
    grind (arith, f a.value p.1, attributes-permitted name schemes f x p.3)

-- such a test accepts all tags of the tables
passes : (name : List ℕ) (schemes : List (List ℕ)) → Permits schemes →
    PassesTags (attributes_pass (is_permitted name schemes)) (is_safe name schemes)
passes name schemes f = grind (arith, attributes-permitted, element-good, void-good)

pub links-pass : PassesTags has_safe_links is_safe_link
links-pass = passes (codes "href") link_protocols permitted-link

pub images-pass : PassesTags has_safe_images is_safe_image
images-pass = passes (codes "src") image_protocols permitted-image

pub safe-links : (text : List ℕ) (x : List Token) → HasOneReadingWith is_safe_link text →
    IsTokenized text x → list_all has_safe_links x ≡ true
safe-links text x one h = all-tokenized _ _ links-pass _ x one h

pub safe-images : (text : List ℕ) (x : List Token) → HasOneReadingWith is_safe_image text →
    IsTokenized text x → list_all has_safe_images x ≡ true
safe-images text x one h = all-tokenized _ _ images-pass _ x one h
