-- A heading that gets an `id`: its bytes decide the same as its token.
use Rattle.std.specs.Str.{bytes_eq}
use Rattle.std.specs.Prelude.{is_none}
use Rattle.std.proofs.Common.{◌≡◌, ℕ, ◌+◌, ◌==◌, suc, true, false, not, ◌&&◌, List, []}
use Rattle.std.proofs.Common.{◌∷◌, ◌++◌, length, refl, sym, ap, ◌∙◌, subst, append_assoc}
use Rattle.std.proofs.Common.{codes, ne_eqb, arith, add-one}
use Rattle.std.specs.List.{list_all}
use Rattle.std.specs.Option.{option_map_or}
use Rattle.std.specs.Fmt.{decimal}
use Rattle.std.specs.Cmp.Lexicographic.{bytes_decides}
use Rattle.std.proofs.lemmas.Bool.{and_parts, and_from, and_left, and_right, not-true, or_right}
use Rattle.std.proofs.lemmas.Bool.{false_from_ne_true}
use Rattle.std.proofs.lemmas.Bool.Decides.{nat_tests}
use Rattle.md_base.proofs.Lies.{lie}
use Rattle.md_text.specs.Bytes.{is_one_of, is_between}
use Rattle.md_text.specs.Encode.{encoded}
use Rattle.md_text.specs.References.{is_escaped}
use Rattle.md_text.specs.Html.{Attribute, written_attributes}
use Rattle.md_text.proofs.EncodeLaws.{is_escaped-encoded}
use Rattle.md_text.proofs.EncodeLemmas.{and_false}
use Rattle.md_safe.specs.Token.{Token, TokenAttribute, StartTag}
use Rattle.md_safe.specs.Tokens.{seen, seen_attributes}
use Rattle.md_safe.proofs.Cases.{either}
use Rattle.md_page.specs.Added.{id_of, gets_id, has_attribute, heading_names, shown}
use Rattle.md_page.specs.GivenIds.{id_text, given_id}
use Rattle.md_page.specs.Pieces.{are_plain, is_name_byte, begins_with_letter}
use Rattle.md_page.specs.Scan.{before_angle, want_id, begins_heading, picks_heading}
use Rattle.md_page.specs.Scan.{new_id, new_given}
use Rattle.md_page.proofs.Parts.{before-run}
use Rattle.md_page.proofs.Plain.{and3, void-name}
use Rattle.md_page.proofs.Numbers.{numbered-escaped, numbered-seen}
use Rattle.md_page.proofs.Tags.{PicksBy, name-differs, all-join, attributes-differ, closes}
use Rattle.md_page.proofs.Adding.{seen_new, is_addition_to}
use Rattle.md_page.proofs.Rules.{IsRule}
use Rattle.md_page.proofs.LinkRule.{value_of-found, none-found, before-attributes, same-names}
use Rattle.md_page.proofs.LinkRule.{seen-encoded}

-- ---- the six names

-- what is true of each of some names is true of one of them
abbrev EachOf : (List ℕ → Type 0) → List (List ℕ) → Type 0
EachOf P [] = Unit {0}
EachOf P (name ∷ names) = P name × EachOf P names

by_name : (P : List ℕ → Type 0) (names : List (List ℕ)) → EachOf P names → (name : List ℕ) →
    is_one_of names name ≡ true → P name
by_name P [] each name h = lie h
by_name P (t ∷ ts) each name h =
    either _ _ h (λ same. subst P (sym ((bytes_decides name t).0 same)) each.0)
    (by_name P ts each.1 name)

pub by_heading : (P : List ℕ → Type 0) → P (codes "h1") → P (codes "h2") →
    P (codes "h3") → P (codes "h4") →
    P (codes "h5") → P (codes "h6") → (name : List ℕ) → is_one_of heading_names name ≡ true → P name
by_heading P one two three four five six name h = grind (arith, by_name P heading_names)

-- each has two bytes
no_heading : (name : List ℕ) → (length name ≡ 2 → ⊥) → is_one_of heading_names name ≡ false
no_heading name f =
    false_from_ne_true _
    (λ h. f (by_heading (λ n. length n ≡ 2) refl refl refl refl refl refl name h))

-- two bytes that begin a heading are its name
pair-named : (b c : ℕ) → ((b == 104) && is_between 49 54 c) ≡ is_one_of heading_names (b ∷ c ∷ [])
pair-named b c = grind (arith, nat_tests)

-- ---- the tag

wants-id : (x : List Attribute) → are_plain x ≡ true →
    want_id (written_attributes x) ≡ not (has_attribute (codes "id") (seen_attributes x))
wants-id [] h = refl
wants-id (a ∷ x) h =
    ap is_none (value_of-found (codes "id") (a ∷ x) h) ∙ none-found (codes "id") (a ∷ x)

-- after a name of one byte no level comes
short : (b : ℕ) (x : List Attribute) (r : List ℕ) →
    begins_heading (b ∷ (written_attributes x ++ (62 ∷ r))) ≡ false
short b [] r = and_false (b == 104)
short b (a ∷ x) r = and_false (b == 104)

picks-name : (name : List ℕ) (x : List Attribute) (r : List ℕ) → begins_with_letter name ≡ true →
    list_all is_name_byte name ≡ true → are_plain x ≡ true →
    picks_heading (name ++ (written_attributes x ++ (62 ∷ r)))
    ≡ gets_id (StartTag name (seen_attributes x) false)
picks-name [] x r b n h = lie b
picks-name (b ∷ []) x r l n h =
    and_left _ _ (short b x r)
    ∙ sym (and_left _ _ (no_heading (b ∷ []) (λ e. omega (arith, e))))
picks-name (b ∷ c ∷ []) x r l n h = grind (arith, before-attributes, wants-id, pair-named)
picks-name (b ∷ c ∷ d ∷ name) x r l n h =
    let p = and3 (is_name_byte b) (is_name_byte c) (list_all is_name_byte (d ∷ name)) n in
    let third = (and_parts (is_name_byte d) (list_all is_name_byte name) p.2).0 in
    let inside = (d ∷ name) ++ written_attributes x in
    let begins = (b == 104) && is_between 49 54 c in
    ap (λ y. begins && option_map_or want_id (before_angle y) false)
    (sym (append_assoc (d ∷ name) (written_attributes x) (62 ∷ r)))
    ∙ ap (λ v. begins && option_map_or want_id v false) (before-run inside r (all-join _ (d ∷ name)
    (written_attributes x) (name-differs 62 (d ∷ name) refl p.2) (attributes-differ 62 x closes h)))
    ∙ and_right begins _ (and_left _ _ (and_left _ _
    (ne_eqb 32 d (λ e. lie (ap is_name_byte e ∙ third)))))
    ∙ sym (and_left _ _ (no_heading (b ∷ c ∷ d ∷ name) (λ e. omega (arith, e))))

pub heading-picks : PicksBy picks_heading gets_id
heading-picks = record {
  elements = grind (arith, picks-name);
  voids = λ name r h.
      not-true (picks_heading (name ++ r))
      (void-name (λ n. not (picks_heading (n ++ r))) name refl h);
  ends = slash;
  void_tokens = λ name x h.
      and_left _ _ (not-true _ (void-name (λ n. not (is_one_of heading_names n)) name refl h));
  end_tokens = λ name. refl;
  characters = λ b. refl;
  end_of_file = refl;
}
  where
    slash : (r : List ℕ) → picks_heading (47 ∷ r) ≡ false
    slash [] = refl
    slash (c ∷ r) = refl

-- ---- an `id` with some value

abbrev id_with : (ℕ → List ℕ) → ℕ → Attribute
id_with value n = record { name = codes "id"; value = value n }

abbrev pub id_seen : (ℕ → List ℕ) → ℕ → TokenAttribute
id_seen value n = record { name = codes "id"; value = value n }

id-rule : (value shows : ℕ → List ℕ) → ((n : ℕ) → is_escaped (value n) ≡ true) →
    ((n : ℕ) → seen (value n) ≡ shows n) →
    IsRule picks_heading gets_id (id_with value) (id_seen shows)
id-rule value shows escaped same = record {
  picks_by = heading-picks;
  may_add = record {
    named = λ n. refl;
    escaped = escaped;
    fresh = λ n name x passes.
        same-names (codes "id") x
        ∙ not-true _ (and_parts (is_one_of heading_names name) _ passes).1;
  };
  seen_so = λ n. ap (λ v. record { name = codes "id"; value = v }) (same n);
  listed = listed;
  links = λ n. refl;
  images = λ n. refl;
}
  where
    listed : (n : ℕ) (t : Token) → gets_id t ≡ true →
        is_addition_to t (seen_new (id_with value) n) ≡ true
    listed n (StartTag name x flag) h =
        or_right (bytes_eq name (codes "a") && false) _
        (and_from _ _ (and_parts (is_one_of heading_names name) _ h).0 refl)
    listed n t h = refl

pub heading-rule : (prefix : List ℕ) →
    IsRule picks_heading gets_id (new_id prefix) (id_of prefix)
heading-rule prefix =
    id-rule (λ n. encoded true prefix ++ decimal (suc n)) (λ n. shown prefix ++ decimal (suc n))
    (λ n. numbered-escaped prefix (suc n)) (λ n. numbered-seen prefix (suc n))

pub given-rule : (ids : List (List ℕ)) →
    IsRule picks_heading gets_id (new_given ids) (given_id ids)
given-rule ids =
    id-rule (λ n. encoded true (id_text ids n)) (λ n. shown (id_text ids n))
    (λ n. is_escaped-encoded (id_text ids n)) (λ n. seen-encoded (id_text ids n))

-- an `id` as it is written piece by piece
pub id-written : (prefix start : List ℕ) (n : ℕ) → start ≡ codes " id=\"" ++ encoded true prefix →
    start ++ (decimal (n + 1) ++ (34 ∷ [])) ≡ written_attributes (new_id prefix n ∷ [])
id-written prefix start n e = rw (e, add-one n) (simp append_assoc)
