-- A permitted protocol, one listed name after another.
use Rattle.std.proofs.Common.{arith, ◌≡◌, ℕ, ◌==◌, Bool, true, false, not, ◌||◌, ◌&&◌, List, []}
use Rattle.std.proofs.Common.{◌∷◌}
use Rattle.std.proofs.Common.{refl, ap, ◌∙◌, inl, inr, Some, None, Option, option_map, bytes_eq}
use Rattle.std.proofs.Common.{map}
use denote.Ref.{Bor}
use Rattle.std.specs.Prelude.{is_some}
use Rattle.std.specs.Option.{option_map_or}
use Rattle.std.specs.List.{list_any}
use Rattle.std.proofs.lemmas.Bool.{cases_Bool}
use Rattle.md_text.specs.Bytes.{lower, lowered, is_one_of}
use Rattle.md_text.specs.Url.{protocol_of, has_permitted_protocol}
use Rattle.md_reader.specs.Named.{has_this_protocol}

-- a URL has this protocol where it has one that is this one once lowered
abbrev pub is_this : List ℕ → Option (List ℕ) → Bool
is_this name found = option_map_or (λ q. bytes_eq (lowered q) name) found false

this-name : (b : ℕ) (url name : List ℕ) (o : Option (List ℕ)) →
    is_this name (option_map (λ before. b ∷ before) o)
    ≡ elim name [ c ∷ others ↦ (lower b == c) && is_this others o | _ ↦ false ]
this-name b url [] None = refl
this-name b url (c ∷ name) None = grind arith
this-name b url [] (Some q) = refl
this-name b url (c ∷ name) (Some q) = refl

pub this-is : (url name : List ℕ) → is_this name (protocol_of url) ≡ has_this_protocol name url
this-is [] name = refl
this-is (b ∷ url) [] = elim (cases_Bool (b == 58)) [
  | inl colon ↦ rw colon refl
  | inr on ↦ elim (cases_Bool ((b == 63) || (b == 35) || (b == 47))) [
    | inl ends ↦ rw (on, ends) refl
    | inr goes ↦ rw (on, goes) (this-name b url [] (protocol_of url))
  ]
]
this-is (b ∷ url) (c ∷ name) = elim (cases_Bool (b == 58)) [
  | inl colon ↦ rw colon refl
  | inr on ↦ elim (cases_Bool ((b == 63) || (b == 35) || (b == 47))) [
    | inl ends ↦ rw (on, ends) refl
    | inr goes ↦ rw (on, goes) (this-name b url (c ∷ name) (protocol_of url)
        ∙ ap (λ later. (lower b == c) && later) (this-is url name))
  ]
]

any-map : (f g : List ℕ → Bool) (names : List (Bor (List ℕ))) → ((x : List ℕ) → f x ≡ g x) →
    list_any f (map (λ name. name.now) names) ≡ list_any (λ name. g name.now) names
any-map f g [] h = refl
any-map f g (n ∷ names) h = rw (h n.now, any-map f g names h) refl

-- no protocol, or one of these
pub permitted-is : (names : List (Bor (List ℕ))) (url : List ℕ) →
    has_permitted_protocol (map (λ name. name.now) names) url
    ≡ (not (is_some (protocol_of url)) || list_any (λ name. has_this_protocol name.now url) names)
permitted-is names url =
    at (protocol_of url) ∙ ap (λ any. not (is_some (protocol_of url)) || any)
    (any-map _ _ names (this-is url))
  where
    at : (o : Option (List ℕ)) →
        option_map_or (λ q. is_one_of (map (λ name. name.now) names) (lowered q)) o true
        ≡ (not (is_some o) || list_any (λ name. is_this name o) (map (λ name. name.now) names))
    at None = refl
    at (Some q) = refl

pub permitted-none : (names : List (Bor (List ℕ))) (url : List ℕ) →
    is_some (protocol_of url) ≡ false →
    has_permitted_protocol (map (λ name. name.now) names) url ≡ true
permitted-none names url e = permitted-is names url
    ∙ ap (λ some. not some || list_any (λ name. has_this_protocol name.now url) names) e

pub permitted-some : (names : List (Bor (List ℕ))) (url : List ℕ) →
    is_some (protocol_of url) ≡ true → has_permitted_protocol (map (λ name. name.now) names) url
    ≡ list_any (λ name. has_this_protocol name.now url) names
permitted-some names url e = permitted-is names url
    ∙ ap (λ some. not some || list_any (λ name. has_this_protocol name.now url) names) e
