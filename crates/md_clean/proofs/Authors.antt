-- An escaped text has no tags.
use Rattle.std.proofs.Common.{◌≡◌, ℕ, Bool, true, ◌&&◌, List, [], ◌∷◌, refl, sym, subst, append-nil}
use Rattle.std.proofs.lemmas.Bool.{and_from}
use Rattle.md_text.specs.References.{is_escaped}
use Rattle.md_text.specs.Html.{Forest, Empty, Text, IsReading}
use Rattle.md_text.proofs.HtmlReading.{one_reading}
use Rattle.md_reader.specs.Authors.{IsOfAuthors, is_of_authors}
use Rattle.md_reader.specs.Chosen.{HasChosenOnly, has_chosen_only}

-- what is true of a forest without tags is true of each reading of an escaped text
pub escaped-has : (p : Forest → Bool) → p Empty ≡ true →
    ((text : List ℕ) → p (Text text Empty) ≡ true) → (text : List ℕ) → is_escaped text ≡ true →
    (forest : Forest) → IsReading text forest → p forest ≡ true
escaped-has p empty alone [] h forest found = subst (λ f. p f ≡ true)
    (sym (one_reading [] forest Empty found (record { in_grammar = refl; written_so = refl })))
    empty
escaped-has p empty alone (b ∷ rest) h forest found =
    let reading : IsReading (b ∷ rest) (Text (b ∷ rest) Empty) = record {
      in_grammar = and_from (true && is_escaped (b ∷ rest) && true) true
          (and_from (true && is_escaped (b ∷ rest)) true (and_from true (is_escaped (b ∷ rest)) refl h)
          refl) refl;
      written_so = append-nil (b ∷ rest);
    } in
    subst (λ f. p f ≡ true)
    (sym (one_reading (b ∷ rest) forest (Text (b ∷ rest) Empty) found reading)) (alone (b ∷ rest))

pub escaped-authors : (text : List ℕ) → is_escaped text ≡ true → IsOfAuthors text
escaped-authors text h = escaped-has is_of_authors refl (λ x. refl) text h

pub escaped-chosen : (tags : List (List ℕ)) (text : List ℕ) → is_escaped text ≡ true →
    HasChosenOnly tags text
escaped-chosen tags text h = escaped-has (has_chosen_only tags) refl (λ x. refl) text h
