-- The targets of the definitions, in sequence.
use Rattle.std.proofs.Common.{◌≡◌, ◌≤◌, ℕ, suc, ◌+◌, ◌-◌, true, Some, List, [], ◌∷◌, ◌++◌, length}
use Rattle.std.proofs.Common.{take, drop, sym, ap, ◌∙◌, arith, add-one, take_all}
use Rattle.std.specs.Prelude.{slice_get, map, option_map}
use Rattle.std.proofs.lemmas.List.{length-map, take_more, drop-take}
use Rattle.std.proofs.lemmas.Option.{slice_get-map, slice_get_within, get_or_from_slice_get}
use Rattle.md_base.specs.declared.event.Name.TheVariants.{Definition}
use Rattle.md_base.specs.Tree.{Forest, flatten}
use Rattle.md_pattern.specs.Partners.{definition_entries}
use Rattle.md_meaning.specs.Meaning.At.{Defined, Context, Target}
use Rattle.md_tree.specs.Grammar.{Handed, IsChecked}
use Rattle.md_tree.specs.Texts.{EntersAt}
use Rattle.md_steps.specs.Run.{Noticed, noticed, defined}
use Rattle.md_facts.specs.NodeFacts.{IsNoticedAt}
use Rattle.md_facts.specs.Definitions.{within, own_defined}
use Rattle.md_facts.proofs.Noticed.{noticed-entered}
use Rattle.md_facts.proofs.Own.{own-defined, own-length}
use Rattle.md_html.specs.Windows.{window}

-- the events of one
pub window-within : {A : Type 0} (xs : List A) (index inside n : ℕ) → n ≡ inside → 1 ≤ inside →
    window (index + 1) (index + n) xs ≡ within index inside xs
window-within xs index inside n e some =
    let next : index + n ≡ suc index + (inside - 1) = omega (arith, e, some) in
    ap (λ k. drop k (take (index + n) xs)) (add-one index)
    ∙ ap (λ k. drop (suc index) (take k xs)) next ∙ drop-take (suc index) (inside - 1) xs

-- a list that grows to another
pub take-next : {A : Type 0} (xs : List A) (i : ℕ) (x : A) → slice_get xs i ≡ Some x →
    take i xs ++ x ∷ [] ≡ take (i + 1) xs
take-next xs i x got =
    sym (take_more xs i x (slice_get_within xs i x got)
    ∙ ap (λ y. take i xs ++ y ∷ []) (get_or_from_slice_get xs i x x got))

-- ---- the target of each

abbrev pub targets_of : Context → Forest → List Target
targets_of at document = map (λ (d : Defined). d.target) (defined at document)

module _ (handed : Handed) (document : Forest) (at : Context) (checked : IsChecked handed)
    (flat : flatten document ≡ handed.events) (entries : List ℕ) (place : ℕ)
    (are : entries ≡ definition_entries 0 document) where
  pub target-there : (index : ℕ) (target : Target) →
      at.bytes ≡ handed.bytes → slice_get entries place ≡ Some index →
      EntersAt handed.events index Definition →
      ((one : Noticed) → IsNoticedAt handed index one → target
      ≡ (own_defined at handed.events (noticed handed.bytes true document) index one).target) →
      slice_get (targets_of at document) place ≡ Some target
  target-there index target same got enters says =
      let seen = noticed-entered handed document index Definition flat enters in
      slice_get-map (λ (d : Defined). d.target) (defined at document) place
      ∙ ap (λ o. option_map (λ (d : Defined). d.target) o) (own-defined handed document at index
      place seen.0 checked flat same (ap (λ xs. slice_get xs place) (sym are) ∙ got) seen.1)
      ∙ ap Some (sym (says seen.0 seen.1))

  pub targets-all : length entries ≤ place →
      take place (targets_of at document) ≡ targets_of at document
  targets-all le =
      take_all place (targets_of at document) (omega (
        arith,
        le,
        length-map (defined at document) (λ (d : Defined). d.target),
        own-length handed document at checked flat,
        ap (λ xs. length xs) are,
      ))
