-- The ids of a text by its bytes: only contracts of private functions cite these.
use Rattle.std.specs.Str.{bytes_eq}
use Rattle.std.specs.Prelude.{ℕ, Bool, true, not, ◌&&◌, ◌==◌, if◌then◌else◌, nat_eq, codes}
use Rattle.std.specs.Prelude.{List, [], ◌∷◌, ◌++◌, Option, Some, None}
use Rattle.std.specs.List.{ends_with, list_all}

-- no byte of a text is `"`
abbrev pub is_unquoted : List ℕ → Bool
is_unquoted text = list_all (λ b. not (b == 34)) text

-- a text ends in ` id=`
abbrev pub names_id : List ℕ → Bool
names_id text = ends_with nat_eq text (codes " id=")

-- the quoted values after ` id=`; within a value it is known whether it is such a one; the
-- text is that of the value so far, or that since the last value
abbrev pub scanned : Option Bool → List ℕ → List ℕ → List (List ℕ)
scanned within text [] = []
scanned None text (b ∷ rest) =
    if b == 34 then scanned (Some (names_id text)) [] rest
    else scanned None (text ++ (b ∷ [])) rest
scanned (Some is_id) text (b ∷ rest) =
    if b == 34 then (if is_id then text ∷ [] else []) ++ scanned None [] rest
    else scanned (Some is_id) (text ++ (b ∷ [])) rest

-- none of some texts is known, and no two are equal
abbrev pub are_new : (List ℕ → Bool) → List (List ℕ) → Bool
are_new known [] = true
are_new known (x ∷ xs) =
    not (known x) && are_new (λ y. if bytes_eq x y then true else known y) xs
