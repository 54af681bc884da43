-- A map that finds entries by their places finds them when another one comes last.
use Rattle.std.proofs.Common.{arith, ◌≡◌, ℕ, zero, suc, Bool, true, false, cond, List, [], ◌∷◌}
use Rattle.std.proofs.Common.{◌++◌, length, Option, Some, None, refl, ap, sym, ◌∙◌, bytes_eq}
use Rattle.std.proofs.Common.{String, inl, inr, Global, string_bytes}
use Rattle.std.proofs.lemmas.Bool.{cases_Bool}
use Rattle.std.specs.Prelude.{if◌then◌else◌, option_map}
use Rattle.std.specs.Option.{option_map_or}
use Rattle.std.specs.String.{string_cmp}
use Rattle.std.specs.BTreeMap.{BTreeMap, get_by_text, UpdatesBy}
use Rattle.std.proofs.lemmas.Map.Text.{btree_map_updates_text}
use Rattle.std.proofs.lemmas.Slice.Eq.{bytes_eq-Decides}
use Rattle.md_footnotes.specs.Entries.{again, place_in, FindsPlaces}
use Rattle.md_meaning.proofs.Identifiers.{same}

-- one more at a place changes no place
pub places-again : (entries : List (String Global × ℕ)) (i : ℕ) (q : List ℕ) →
    place_in (again entries i) q ≡ place_in entries q
places-again [] i q = refl
places-again (e ∷ entries) zero q = refl
places-again (e ∷ entries) (suc i) q = let later = places-again entries i q in grind (arith, later)

-- an entry more at the end is found there, unless its identifier is found before it
place-push :
    {V : Type 0} (entries : List (String Global × V)) (e : String Global × V) (q : List ℕ) →
    place_in (entries ++ e ∷ []) q ≡ option_map_or (λ place. Some place) (place_in entries q)
    (if bytes_eq (string_bytes e.0) q then Some (length entries) else None)
place-push [] e q = refl
place-push (f ∷ entries) e q = let later = place-push entries e q in grind (arith, later)
  where
    later : (o : Option ℕ) (b : Bool) → option_map (λ place. suc place)
        (option_map_or (λ place. Some place) o (if b then Some (length entries) else None))
        ≡ option_map_or (λ place. Some place) (option_map (λ place. suc place) o) (if b
        then Some (suc (length entries)) else None)
    later None true = refl
    later None false = refl
    later (Some place) b = refl

-- a map that finds the places finds them when a new entry comes last
pub places-push :
    {V : Type 0} (old new : BTreeMap (String Global) ℕ) (entries : List (String Global × V))
    (key copy : String Global) (value : V) (place : ℕ) →
    place_in entries (string_bytes key) ≡ None → string_bytes copy ≡ string_bytes key →
    place ≡ length entries →
    FindsPlaces old entries →
    UpdatesBy string_cmp (string_cmp copy) old new (Some place) →
    FindsPlaces new (entries ++ (key, value) ∷ [])
places-push old new entries key copy value place missing same last found updates = λ q.
    btree_map_updates_text (string_bytes copy) old new (Some place) updates q
    ∙ ap (λ n. cond (bytes_eq (string_bytes copy) q) (Some n) (get_by_text old q)) last
    ∙ ap (λ bs. cond (bytes_eq bs q) (Some (length entries)) (get_by_text old q)) same
    ∙ ap (λ o. cond (bytes_eq (string_bytes key) q) (Some (length entries)) o) (found q)
    ∙ (elim (cases_Bool (bytes_eq (string_bytes key) q)) [
      | inl t ↦ rw t (sym (ap (λ o. option_map_or (λ place. Some place) o (Some (length entries)))
          (sym (ap (λ bs. place_in entries bs) ((bytes_eq-Decides (string_bytes key) q).0 t))
          ∙ missing)))
      | inr t ↦ rw t (itself (place_in entries q))
    ])
    ∙ sym (place-push entries (key, value) q)
  where
    itself : (o : Option ℕ) → o ≡ option_map_or (λ place. Some place) o None
    itself None = refl
    itself (Some place) = refl
