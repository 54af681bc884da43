-- The ids among tokens.
use Rattle.std.specs.Str.{bytes_eq}
use Rattle.std.specs.Prelude.{◌≡◌, ℕ, Bool, true, not, if◌then◌else◌, nat_eq, List, [], ◌∷◌, ◌++◌}
use Rattle.std.specs.Prelude.{codes}
use Rattle.std.specs.List.{list_all, starts_with}
use Rattle.md_content.specs.Built.{is_digit}
use Rattle.md_safe.specs.Token.{Token, TokenAttribute, StartTag}
use Rattle.md_page.specs.Added.{shown}

-- the values of the `id`s of some attributes
abbrev pub ids_in : List TokenAttribute → List (List ℕ)
ids_in [] = []
ids_in (a ∷ more) = if bytes_eq (codes "id") a.name then a.value ∷ ids_in more else ids_in more

-- those of a token
abbrev pub ids_at : Token → List (List ℕ)
ids_at token = elim token [ StartTag name attributes flag ↦ ids_in attributes | _ ↦ [] ]

-- those of all tokens
abbrev pub ids_among : List Token → List (List ℕ)
ids_among [] = []
ids_among (t ∷ more) = ids_at t ++ ids_among more

-- none of some ids begins so
abbrev pub none_begins : List ℕ → List (List ℕ) → Bool
none_begins prefix ids = list_all (λ id. not (starts_with nat_eq id prefix)) ids

-- ---- ids of headings in two documents

-- the second text isn't the first one, alone or followed by digits
abbrev pub HasNoDigitsPast : List ℕ → List ℕ → Type 0
HasNoDigitsPast one other =
    (digits : List ℕ) → list_all is_digit digits ≡ true → other ≡ one ++ digits → ⊥

-- neither of two prefixes, as they are read, is the other one, alone or followed by digits
abbrev pub AreApart : List ℕ → List ℕ → Type 0
AreApart one other =
    HasNoDigitsPast (shown one) (shown other) × HasNoDigitsPast (shown other) (shown one)
