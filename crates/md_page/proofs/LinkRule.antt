-- A link that gets a `rel`: its bytes decide the same as its token.
use Rattle.std.specs.Str.{bytes_eq}
use Rattle.std.specs.Prelude.{nat_eq, is_none}
use Rattle.std.proofs.Common.{◌≡◌, ℕ, Bool, true, false, not, ◌&&◌, ◌||◌, cond, List, [], ◌∷◌}
use Rattle.std.proofs.Common.{◌++◌, refl, ap, ◌∙◌, append_assoc, inl, inr}
use Rattle.std.proofs.Common.{Option, Some, None, codes, ne_eqb, arith}
use Rattle.std.specs.List.{list_all, list_any, starts_with}
use Rattle.std.specs.Option.{option_map_or}
use Rattle.std.specs.Cmp.Lexicographic.{bytes_decides}
use Rattle.std.proofs.lemmas.Bool.{and_parts, and_from, and_left, not-true}
use Rattle.std.proofs.lemmas.Bool.{or_left, cases_Bool, cases_eq}
use Rattle.std.proofs.lemmas.List.{append_cancel_right}
use Rattle.md_base.proofs.Lies.{lie}
use Rattle.md_base.specs.Identifier.{is_nonempty}
use Rattle.md_text.specs.References.{is_escaped, begins_with}
use Rattle.md_text.specs.Html.{Attribute, written_attributes}
use Rattle.md_text.specs.Encode.{encoded}
use Rattle.md_text.proofs.EncodeLaws.{read_back-other, read_back-encoded, is_escaped-encoded}
use Rattle.md_text.proofs.EncodeLemmas.{and_false}
use Rattle.md_text.proofs.HtmlReading.{tail_of}
use Rattle.md_safe.specs.Input.{with_line_feeds}
use Rattle.md_safe.specs.Token.{Token, StartTag}
use Rattle.md_safe.specs.Tokens.{seen, seen_attributes}
use Rattle.md_safe.proofs.EscapedCases.{IsPlain, by_escaped}
use Rattle.md_safe.proofs.Schemes.{seen-is}
use Rattle.md_safe.proofs.Steps.{plain-ne}
use Rattle.md_page.specs.Added.{gets_rel, leads_away, has_attribute, shown, rel_of}
use Rattle.md_page.specs.Pieces.{are_plain, is_name_byte, begins_with_letter}
use Rattle.md_page.specs.Scan.{differs, before_angle, parts_of, value_of, is_away}
use Rattle.md_page.specs.Scan.{want_rel, picks_link, new_rel}
use Rattle.md_page.proofs.Parts.{parts-filled, parts-run, value_in-step, before-run}
use Rattle.md_page.proofs.Plain.{and3, plain_attribute, void-name}
use Rattle.md_page.proofs.Tags.{PicksBy, escaped-differs, name-differs, all-join}
use Rattle.md_page.proofs.Tags.{attributes-differ, closes}
use Rattle.md_page.proofs.Adding.{seen_new, is_addition_to}
use Rattle.md_page.proofs.Rules.{IsRule}

-- two tests that pass together
pub both : (a b : Bool) → (a ≡ true → b ≡ true) → (b ≡ true → a ≡ true) → a ≡ b
both a b f g = grind (arith, f, g)

-- ---- an attribute by its name

-- the value of the first attribute with a name
abbrev pub found : List ℕ → List Attribute → Option (List ℕ)
found key [] = None
found key (a ∷ x) = cond (bytes_eq key a.name) (Some a.value) (found key x)

-- a name between a space and `=`
abbrev framed : List ℕ → List ℕ
framed name = 32 ∷ (name ++ (61 ∷ []))

framed-eq : (key name : List ℕ) → bytes_eq (framed key) (framed name) ≡ bytes_eq key name
framed-eq key name = grind (arith, both, bytes_decides, append_cancel_right, tail_of)

pub value_of-found : (key : List ℕ) (x : List Attribute) → are_plain x ≡ true →
    value_of (framed key) (written_attributes x) ≡ found key x
value_of-found key [] h = refl
value_of-found key (a ∷ x) h =
    let p = plain_attribute a x h in
    let later = written_attributes x in
    let front : list_all (differs 34) (framed a.name) ≡ true =
    grind (arith, all-join, name-differs) in
    rw (← append_assoc a.name (61 ∷ []) (34 ∷ (a.value ++ (34 ∷ later))))
    (rw (parts-run (framed a.name) (a.value ++ (34 ∷ later)) front)
    (rw (parts-run a.value later (escaped-differs 34 a.value (λ rest. refl) p.1))
    (rw (value_in-step (framed key) (framed a.name) a.value (parts_of later) (parts-filled later))
    (rw (framed-eq key a.name, value_of-found key x p.3) refl))))

-- there is none exactly if no attribute has the name
pub none-found : (key : List ℕ) (x : List Attribute) →
    is_none (found key x) ≡ not (has_attribute key (seen_attributes x))
none-found key [] = refl
none-found key (a ∷ x) = let later = none-found key x in grind (arith, later)

-- ---- a value as it is written, and as it is seen

-- not empty, and no `#` first
abbrev away : List ℕ → Bool
away value = is_nonempty value && not (starts_with nat_eq value (codes "#"))

away-plain : (b : ℕ) (rest : List ℕ) → IsPlain b → away (seen (b ∷ rest)) ≡ away (b ∷ rest)
away-plain b rest p = elim (cases_eq b 13) [
  | inl is ↦ rw is (returned rest)
  | inr ne ↦ rw (ne_eqb b 13 ne, read_back-other b (with_line_feeds rest) (plain-ne b p)) refl
]
  where
    returned : (rest : List ℕ) → away (seen (13 ∷ rest)) ≡ away (13 ∷ rest)
    returned [] = refl
    returned (c ∷ rest) = elim (cases_eq c 10) [
      | inl is ↦ rw is refl
      | inr ne ↦ rw (ne_eqb c 10 ne) refl
    ]

away-seen : (value : List ℕ) → is_escaped value ≡ true → away (seen value) ≡ is_away value
away-seen value h =
    by_escaped (λ x. away (seen x) ≡ away x) refl (λ b rest p later. away-plain b rest p)
    (λ rest later. refl) (λ rest later. refl) (λ rest later. refl) (λ rest later. refl) value h

-- no attribute leaves the page if none has the name
none-away : (x : List Attribute) → list_any (λ a. bytes_eq (codes "href") a.name) x ≡ false →
    list_any leads_away (seen_attributes x) ≡ false
none-away [] h = refl
none-away (a ∷ x) h = let later = none-away x in grind (arith, later, h)

found-away : (x : List Attribute) → are_plain x ≡ true →
    option_map_or is_away (found (codes "href") x) false ≡ list_any leads_away (seen_attributes x)
found-away [] h = refl
found-away (a ∷ x) h =
    let p = plain_attribute a x h in
    elim (cases_Bool (bytes_eq (codes "href") a.name)) [
      | inl is ↦
          (let none = none-away x (ap (λ n. list_any (λ later. bytes_eq n later.name) x)
          ((bytes_decides (codes "href") a.name).0 is) ∙ p.2) in
          rw (is, none) (grind (arith, away-seen a.value p.1)))
      | inr e ↦ rw e (found-away x p.3)
    ]

-- ---- the tag

pub before-attributes : (x : List Attribute) (r : List ℕ) → are_plain x ≡ true →
    before_angle (written_attributes x ++ (62 ∷ r)) ≡ Some (written_attributes x)
before-attributes x r h = before-run (written_attributes x) r (attributes-differ 62 x closes h)

wants : (x : List Attribute) → are_plain x ≡ true → want_rel (written_attributes x)
    ≡ (list_any leads_away (seen_attributes x)
    && not (has_attribute (codes "rel") (seen_attributes x)))
wants x h =
    rw (value_of-found (codes "href") x h, value_of-found (codes "rel") x h, found-away x h)
    (rw (none-found (codes "rel") x) refl)

-- an `a`
picks-a : (x : List Attribute) (r : List ℕ) → are_plain x ≡ true →
    picks_link (97 ∷ (written_attributes x ++ (62 ∷ r)))
    ≡ gets_rel (StartTag (codes "a") (seen_attributes x) false)
picks-a [] r h = refl
picks-a (a ∷ x) r h = grind (arith, before-attributes (a ∷ x) r h, wants (a ∷ x) h)

-- any other name
no-a : (name tail : List ℕ) → list_all is_name_byte name ≡ true →
    bytes_eq name (codes "a") ≡ false →
    begins_with_letter name ≡ true → begins_with (codes "a ") (name ++ tail) ≡ false
no-a [] tail h ne f = lie f
no-a (b ∷ []) tail h ne f = grind (arith, ne_eqb)
no-a (b ∷ c ∷ name) tail h ne f = grind (arith, ne_eqb, and_false)

link-picks : PicksBy picks_link gets_rel
link-picks = record {
  elements = λ name x r named plain.
      elim (cases_Bool (bytes_eq name (codes "a"))) [
        | inl is ↦ rw ((bytes_decides name (codes "a")).0 is) (picks-a x r plain)
        | inr other ↦ grind (arith, no-a)
      ];
  voids = λ name r h.
      not-true (picks_link (name ++ r)) (void-name (λ n. not (picks_link (n ++ r))) name refl h);
  ends = λ r. refl;
  void_tokens = λ name x h.
      and_left _ _ (not-true _ (void-name (λ n. not (bytes_eq n (codes "a"))) name refl h));
  end_tokens = λ name. refl;
  characters = λ b. refl;
  end_of_file = refl;
}

-- an attribute is among those that are seen exactly if it is among those that are written
pub same-names : (key : List ℕ) (x : List Attribute) →
    list_any (λ a. bytes_eq key a.name) x ≡ has_attribute key (seen_attributes x)
same-names key [] = refl
same-names key (a ∷ x) = ap (λ t. bytes_eq key a.name || t) (same-names key x)

-- what a tokenizer sees of an escaped text
pub seen-encoded : (text : List ℕ) → seen (encoded true text) ≡ shown text
seen-encoded text = grind (arith, seen-is, is_escaped-encoded, read_back-encoded)

pub link-rule : (text : List ℕ) → IsRule picks_link gets_rel (new_rel text) (rel_of text)
link-rule text = record {
  picks_by = link-picks;
  may_add = record {
    named = λ n. refl;
    escaped = λ n. is_escaped-encoded text;
    fresh = λ n name x passes. same-names (codes "rel") x ∙ not-true _ (and3 (bytes_eq name
        (codes "a")) (list_any leads_away (seen_attributes x)) _ passes).2;
  };
  seen_so = λ n. ap (λ v. record { name = codes "rel"; value = v }) (seen-encoded text);
  listed = listed;
  links = λ n. refl;
  images = λ n. refl;
}
  where
    listed : (n : ℕ) (t : Token) → gets_rel t ≡ true →
        is_addition_to t (seen_new (new_rel text) n) ≡ true
    listed n (StartTag name x flag) h =
        or_left _ _ (and_from _ _ (and_parts (bytes_eq name (codes "a")) _ h).0 refl)
    listed n t h = refl
