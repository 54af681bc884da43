-- The list of active formatting elements while phrasing content is built: entries are taken
-- away from it alone.
use Rattle.std.proofs.Common.{◌≡◌, ◌⊎◌, inl, inr, ℕ, ◌≤◌, nat_lt, false, cond, List, [], ◌∷◌, refl}
use Rattle.std.proofs.Common.{sym, subst, arith}
use Rattle.std.specs.Prelude.{None}
use Rattle.std.proofs.lemmas.Bool.{or_right, cond_both}
use Rattle.md_safe.specs.Token.{TokenAttribute}
use Rattle.md_safe.specs.Node.{Open, Entry, Marker, Formatting}
use Rattle.md_safe.specs.Formatting.{is_active, count_same, without_earliest, last_active}
use Rattle.md_safe.specs.Built.{AreCreated, AreOpen}

-- some formatting elements after the last marker were taken away
abbrev pub Keeps : List Entry → List Entry → Type 0
Keeps [] ys = ys ≡ []
Keeps (Marker ∷ xs) ys = ys ≡ Marker ∷ xs
Keeps (Formatting identity name attributes ∷ xs) ys =
    Keeps xs ys
    ⊎ ((zs : List Entry) × (ys ≡ Formatting identity name attributes ∷ zs) × Keeps xs zs)

pub keeps-all : (xs : List Entry) → Keeps xs xs
keeps-all [] = refl
keeps-all (Marker ∷ xs) = refl
keeps-all (Formatting identity name attributes ∷ xs) = inr (xs, refl, keeps-all xs)

pub keeps-twice : (xs ys zs : List Entry) → Keeps xs ys → Keeps ys zs → Keeps xs zs
keeps-twice [] ys zs a b = subst (λ ys. Keeps ys zs) a b
keeps-twice (Marker ∷ xs) ys zs a b = subst (λ ys. Keeps ys zs) a b
keeps-twice (Formatting identity name attributes ∷ xs) ys zs (inl a) b =
    inl (keeps-twice xs ys zs a b)
keeps-twice (Formatting identity name attributes ∷ xs) ys zs (inr a) b =
    elim (subst (λ ys. Keeps ys zs) a.1 b) [
      | inl c ↦ inl (keeps-twice xs a.0 zs a.2 c)
      | inr c ↦ inr (c.0, c.1, keeps-twice xs a.0 c.0 a.2 c.2)
    ]

keeps-earliest : (name : List ℕ) (attributes : List TokenAttribute) (xs : List Entry) →
    Keeps xs (without_earliest name attributes xs)
keeps-earliest name attributes [] = refl
keeps-earliest name attributes (Marker ∷ xs) = refl
keeps-earliest name attributes (Formatting identity other those ∷ xs) =
    grind (arith, cond_both, keeps-all, keeps-earliest name attributes xs)

-- the rest of the list when an element is pushed
abbrev pub room : List ℕ → List TokenAttribute → List Entry → List Entry
room name attributes xs =
    cond (nat_lt 2 (count_same name attributes xs)) (without_earliest name attributes xs) xs

pub keeps-room : (name : List ℕ) (attributes : List TokenAttribute) (xs : List Entry) →
    Keeps xs (room name attributes xs)
keeps-room name attributes xs = grind (arith, cond_both, keeps-earliest, keeps-all)

-- what holds of a list and of what follows its first entry, and of that entry before any list of
-- which it holds, holds when entries are taken away
keeps-each : (P : List Entry → Type 0) → ((identity : ℕ) (name : List ℕ)
    (attributes : List TokenAttribute) (xs ys : List Entry) →
    P (Formatting identity name attributes ∷ xs) →
    P xs × (P ys → P (Formatting identity name attributes ∷ ys))) →
    (xs ys : List Entry) → P xs → Keeps xs ys → P ys
keeps-each P step [] ys o a = subst P (sym a) o
keeps-each P step (Marker ∷ xs) ys o a = subst P (sym a) o
keeps-each P step (Formatting identity name attributes ∷ xs) ys o (inl a) =
    keeps-each P step xs ys (step identity name attributes xs ys o).0 a
keeps-each P step (Formatting identity name attributes ∷ xs) ys o (inr a) =
    let parts = step identity name attributes xs a.0 o in
    subst P (sym a.1) (parts.1 (keeps-each P step xs a.0 parts.0 a.2))

pub keeps-open : (stack : List Open) (xs ys : List Entry) → AreOpen stack xs →
    Keeps xs ys → AreOpen stack ys
keeps-open stack = keeps-each (AreOpen stack) (λ i n t xs ys o. (o.1, λ h. (o.0, h)))

pub keeps-created : (created : ℕ) (xs ys : List Entry) → AreCreated created xs → Keeps xs ys →
    AreCreated created ys
keeps-created created = keeps-each (AreCreated created) (λ i n t xs ys o. (o.1, λ h. (o.0, h)))

pub later-created : (created more : ℕ) (xs : List Entry) → created ≤ more →
    AreCreated created xs → AreCreated more xs
later-created created more [] l o = tt
later-created created more (Marker ∷ xs) l o = later-created created more xs l o
later-created created more (Formatting identity name attributes ∷ xs) l o =
    (omega (l, o.0, arith), later-created created more xs l o.1)

-- what is yet to be created is no entry
pub not-active : (created : ℕ) (xs : List Entry) → AreCreated created xs →
    is_active created xs ≡ false
not-active created [] o = refl
not-active created (Marker ∷ xs) o = not-active created xs o
not-active created (Formatting identity name attributes ∷ xs) o =
    grind (arith, o.0, not-active created xs o.1)

-- what is open stays open under another element
pub open-under : (node : Open) (stack : List Open) (xs : List Entry) → AreOpen stack xs →
    AreOpen (node ∷ stack) xs
open-under node stack [] o = tt
open-under node stack (Marker ∷ xs) o = tt
open-under node stack (Formatting identity name attributes ∷ xs) o =
    grind (arith, or_right, open-under node stack xs o.1)

-- where no element of a name is active, none is when entries are taken away
pub keeps-none : (name : List ℕ) (xs ys : List Entry) → last_active name xs ≡ None → Keeps xs ys →
    last_active name ys ≡ None
keeps-none name = keeps-each (λ xs. last_active name xs ≡ None)
    (λ i other t xs ys n. (grind (arith, n), λ h. grind (arith, n, h)))
