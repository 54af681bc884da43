-- Tags that authors may write, by their parts.
use Rattle.std.proofs.Common.{◌≡◌, ℕ, Bool, true, false, not, ◌&&◌, List, [], ◌∷◌, ◌++◌}
use Rattle.std.proofs.Common.{refl, sym, ap, ◌∙◌}
use Rattle.std.specs.List.{list_all, list_any}
use Rattle.std.proofs.lemmas.Bool.{and_parts, and_from}
use Rattle.md_text.specs.Bytes.{is_one_of}
use Rattle.md_text.specs.Html.{Attribute, Empty, Void, are_attributes, elements, is_tag, void_tags}
use Rattle.md_text.specs.Html.{written_attributes}
use Rattle.md_reader.specs.Attributes.{AreAttributes, are_left}
use Rattle.md_reader.specs.Authors.{is_authors_tag, is_of_authors, own_tags}
use Rattle.md_reader.specs.Pieces.{IsEndTag, IsStartTag, IsVoidTag}
use Rattle.md_reader.proofs.AttributeLemmas.{left-listed}
use Rattle.md_reader.proofs.SafeLemmas.{authors_test, pass-authors}

-- a tag that isn't the compiler's, with attributes that aren't
of-authors : (p : Attribute → Bool) (name : List ℕ) (x : List Attribute) →
    is_one_of own_tags name ≡ false → list_all (authors_test p).attribute x ≡ true →
    is_authors_tag name x ≡ true
of-authors p name x own passes =
    (and_parts (is_authors_tag name x) true (pass-authors p (Void name x Empty)
    (and_from ((authors_test p).tag name && list_all (authors_test p).attribute x) true
    (and_from ((authors_test p).tag name) (list_all (authors_test p).attribute x)
    (ap not own) passes) refl))).0

module _ (p : Attribute → Bool) (list : List (List ℕ)) (text name after rest : List ℕ) where
  pub start-tag : text ≡ name ++ after → is_one_of own_tags name ≡ false →
      ((x : List Attribute) → are_attributes list x ≡ true → is_tag elements name x ≡ true) →
      AreAttributes (authors_test p).attribute (is_one_of list) after rest → rest ≡ 62 ∷ [] →
      IsStartTag (60 ∷ text)
  start-tag cut own tag are ends = record {
    name = name;
    attributes = are.attributes;
    listed = tag are.attributes (sym (left-listed list are.attributes) ∙ are.fresh);
    of_authors = of-authors p name are.attributes own are.passes;
    is = ap (λ x. 60 ∷ x) (cut ∙ ap (λ x. name ++ x) (are.is
        ∙ ap (λ x. written_attributes are.attributes ++ x) ends));
  }

  pub void-tag : text ≡ name ++ after → is_one_of own_tags name ≡ false →
      ((x : List Attribute) → are_attributes list x ≡ true → is_tag void_tags name x ≡ true) →
      AreAttributes (authors_test p).attribute (is_one_of list) after rest →
      rest ≡ 32 ∷ 47 ∷ 62 ∷ [] → IsVoidTag (60 ∷ text)
  void-tag cut own tag are ends = record {
    name = name;
    attributes = are.attributes;
    listed = tag are.attributes (sym (left-listed list are.attributes) ∙ are.fresh);
    of_authors = of-authors p name are.attributes own are.passes;
    is = ap (λ x. 60 ∷ x) (cut ∙ ap (λ x. name ++ x) (are.is
        ∙ ap (λ x. written_attributes are.attributes ++ x) ends));
  }

pub end-tag : (text name rest : List ℕ) → text ≡ name ++ rest → is_one_of own_tags name ≡ false →
    is_tag elements name [] ≡ true → rest ≡ 62 ∷ [] → IsEndTag (60 ∷ 47 ∷ text)
end-tag text name rest cut own listed ends = record {
  name = name;
  listed = listed;
  of_authors = of-authors (λ a. true) name [] own refl;
  is = ap (λ x. 60 ∷ 47 ∷ x) (cut ∙ ap (λ x. name ++ x) ends);
}
