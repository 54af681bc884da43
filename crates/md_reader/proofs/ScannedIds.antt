-- The quoted values after ` id=` in the text of a forest are those of its ids.
use Rattle.std.specs.Str.{bytes_eq}
use Rattle.std.proofs.Common.{◌≡◌, ℕ, ◌==◌, Bool, true, false, not, ◌&&◌, cond, List, [], ◌∷◌, ◌++◌}
use Rattle.std.proofs.Common.{Option, Some, None, map, refl, sym, ap, ap₂, ◌∙◌, subst, inl, inr}
use Rattle.std.proofs.Common.{append_assoc, append-nil, codes, arith, if◌then◌else◌}
use Rattle.std.proofs.Common.{◌||◌, ◌+◌, ◌<◌, length, take, drop, eqb-true, suc, MatchOption}
use Rattle.std.specs.List.{list_all, list_any, prefix_len, position_or_len}
use Rattle.std.specs.List.{before_first, after_first}
use Rattle.std.specs.Cmp.Lexicographic.{bytes_decides}
use Rattle.std.proofs.lemmas.Bool.{and_parts, and_from, cases_Bool}
use Rattle.std.proofs.lemmas.Bool.Decides.{Decides-eqb}
use Rattle.std.proofs.lemmas.List.{append_cancel_right, map-append}
use Rattle.std.proofs.lemmas.List.Folds.{list_all-append}
use denote.Ref.{Bor}
use Rattle.std.proofs.lemmas.List.Prefix.{end_rest}
use Rattle.std.proofs.lemmas.Slice.Eq.{ends_is}
use Rattle.md_base.proofs.Lies.{lie}
use Rattle.md_text.specs.HtmlName.{is_name_byte, is_name}
use Rattle.md_text.specs.References.{is_escaped, read_back}
use Rattle.md_text.specs.Encode.{encoded}
use Rattle.md_text.specs.Html.{Attribute, Forest, Empty, Text, Void, Element, is_forest, is_tag}
use Rattle.md_text.specs.Html.{are_attributes, elements, void_tags, written, written_attributes}
use Rattle.md_text.specs.Ids.{ids_in, ids, are_distinct}
use Rattle.md_text.proofs.EncodeLaws.{read_back-other}
use Rattle.md_text.proofs.EncodeLemmas.{encoded_byte-plain}
use Rattle.md_text.proofs.KeptLemmas.{next}
use Rattle.md_text.proofs.HtmlNames.{no_quote, are_tidy, element-tidy, void-tidy, escaped-quote}
use Rattle.md_safe.proofs.EscapedCases.{by_escaped}
use Rattle.md_safe.proofs.Steps.{plain-ne}
use Rattle.md_reader.specs.ScannedIds.{names_id, scanned, are_new}

-- ---- bytes

-- bytes without a quote come to those before them
run : (within : Option Bool) (text x r : List ℕ) → list_all no_quote x ≡ true →
    scanned within text (x ++ r) ≡ scanned within (text ++ x) r
run within text [] r h = rw append-nil refl
run None text (b ∷ x) r h =
    let later = run None (text ++ (b ∷ [])) x r in grind (arith, append_assoc, later, h)
run (Some is_id) text (b ∷ x) r h =
    let later = run (Some is_id) (text ++ (b ∷ [])) x r in grind (arith, append_assoc, later, h)

-- without a quote there is no value
pub no-value : (within : Option Bool) (text x : List ℕ) → list_all no_quote x ≡ true →
    scanned within text x ≡ []
no-value within text x h =
    ap (scanned within text) (sym (append-nil x)) ∙ run within text x [] h

-- nor where the first value doesn't end
pub no-end : (before after : List ℕ) → list_all no_quote before ≡ true →
    list_all no_quote after ≡ true → scanned None [] (before ++ (34 ∷ after)) ≡ []
no-end before after b a =
    run None [] before (34 ∷ after) b ∙ no-value (Some (names_id before)) [] after a

-- the value if it follows ` id=`
abbrev pub value_if : Bool → List ℕ → List (List ℕ)
value_if is_id value = if is_id then value ∷ [] else []

one-value : (pre before value rest : List ℕ) → list_all no_quote before ≡ true →
    list_all no_quote value ≡ true →
    scanned None pre (before ++ (34 ∷ (value ++ (34 ∷ rest))))
    ≡ value_if (names_id (pre ++ before)) value ++ scanned None [] rest
one-value pre before value rest b v =
    run None pre before (34 ∷ (value ++ (34 ∷ rest))) b
    ∙ run (Some (names_id (pre ++ before))) [] value (34 ∷ rest) v

-- an iteration reads one value
pub next-value : (before value more : List ℕ) {rest after : List ℕ} →
    rest ≡ before ++ (34 ∷ after) → list_all no_quote before ≡ true →
    after ≡ value ++ (34 ∷ more) → list_all no_quote value ≡ true →
    scanned None [] rest ≡ value_if (names_id before) value ++ scanned None [] more
next-value before value more is b also v =
    ap (scanned None []) (is ∙ ap (λ x. before ++ (34 ∷ x)) also)
    ∙ one-value [] before value more b v

-- ---- names

abbrev no_space : ℕ → Bool
no_space b = not (b == 32)

has-space : (x y : List ℕ) → list_all no_space (x ++ (32 ∷ y)) ≡ false
has-space [] y = refl
has-space (b ∷ x) y = let later = has-space x y in grind (arith, later)

name-spaceless : (name : List ℕ) → list_all is_name_byte name ≡ true →
    list_all no_space (name ++ (61 ∷ [])) ≡ true
name-spaceless [] h = refl
name-spaceless (b ∷ name) h = let later = name-spaceless name in grind (arith, later, h)

-- what follows the last space is the name
id-name : (pre front name : List ℕ) → list_all is_name_byte name ≡ true →
    pre ++ (32 ∷ (name ++ (61 ∷ []))) ≡ front ++ codes " id=" → name ≡ codes "id"
id-name [] [] name n e =
    let tails : name ++ (61 ∷ []) ≡ codes "id" ++ (61 ∷ []) = cc in
    append_cancel_right name (codes "id") (61 ∷ []) tails
id-name [] (c ∷ front) name n e =
    let tails : name ++ (61 ∷ []) ≡ front ++ codes " id=" = cc in
    lie (sym (has-space front (codes "id=")) ∙ ap (list_all no_space) (sym tails)
    ∙ name-spaceless name n)
id-name (c ∷ pre) [] name n e =
    let tails : pre ++ (32 ∷ (name ++ (61 ∷ []))) ≡ codes "id=" = cc in
    lie (sym (has-space pre (name ++ (61 ∷ []))) ∙ ap (list_all no_space) tails)
id-name (c ∷ pre) (d ∷ front) name n e =
    let tails : pre ++ (32 ∷ (name ++ (61 ∷ []))) ≡ front ++ codes " id=" = cc in
    id-name pre front name n tails

at-id : (x : List ℕ) → names_id (x ++ codes " id=") ≡ true
at-id x = rw (end_rest (x ++ codes " id=") (codes " id=") x refl) refl

-- the text up to a value names an id exactly if its attribute's name is `id`
names-is : (pre name : List ℕ) → list_all is_name_byte name ≡ true →
    names_id (pre ++ (32 ∷ (name ++ (61 ∷ [])))) ≡ bytes_eq name (codes "id")
names-is pre name n = elim (cases_Bool (bytes_eq name (codes "id"))) [
  | inl is ↦
      ap (λ x. names_id (pre ++ (32 ∷ (x ++ (61 ∷ []))))) ((bytes_decides name (codes "id")).0 is)
      ∙ at-id pre ∙ sym is
  | inr other ↦ elim (cases_Bool (names_id (pre ++ (32 ∷ (name ++ (61 ∷ [])))))) [
    | inl ends ↦
        (let text = pre ++ (32 ∷ (name ++ (61 ∷ []))) in
        let is = id-name pre _ name n ((ends_is Decides-eqb text (codes " id=") _ refl).0 ends) in
        lie (sym other ∙ (bytes_decides name (codes "id")).1 is))
    | inr no_id ↦ no_id ∙ sym other
  ]
]

-- ---- forests

-- the values of the ids, as they are written
abbrev values_in : List Attribute → List (List ℕ)
values_in [] = []
values_in (a ∷ rest) = value_if (bytes_eq a.name (codes "id")) a.value ++ values_in rest

abbrev pub values : Forest → List (List ℕ)
values Empty = []
values (Text bytes rest) = values rest
values (Void name attributes rest) = values_in attributes ++ values rest
values (Element name attributes inner rest) =
    values_in attributes ++ (values inner ++ values rest)

-- in a text, after any other text, these values are found
abbrev IsScanned : List ℕ → List (List ℕ) → Type 0
IsScanned text found = (pre : List ℕ) → scanned None pre text ≡ found

past : (x r : List ℕ) (found : List (List ℕ)) → list_all no_quote x ≡ true → IsScanned r found →
    IsScanned (x ++ r) found
past x r found h s pre = run None pre x r h ∙ s (pre ++ x)

name-unquoted : (name : List ℕ) → list_all is_name_byte name ≡ true →
    list_all no_quote name ≡ true
name-unquoted [] h = refl
name-unquoted (b ∷ name) h = let later = name-unquoted name in grind (arith, later, h)

up-unquoted : (name : List ℕ) → list_all no_quote name ≡ true →
    list_all no_quote (name ++ (61 ∷ [])) ≡ true
up-unquoted [] h = refl
up-unquoted (b ∷ name) h = let later = up-unquoted name in grind (arith, later, h)

attributes-scanned : (x : List Attribute) (r : List ℕ) (found : List (List ℕ)) →
    are_tidy x ≡ true → IsScanned r found →
    IsScanned (written_attributes x ++ r) (values_in x ++ found)
attributes-scanned [] r found t s = s
attributes-scanned (a ∷ x) r found t s = λ pre.
    (let p = and_parts (is_name a.name) _ t in
    let named = (and_parts _ (list_all is_name_byte a.name) p.0).1 in
    let q = and_parts (list_all no_quote a.value) _ p.1 in
    let tidy = (and_parts _ (are_tidy x) q.1).1 in
    let on = written_attributes x ++ r in
    let before = 32 ∷ (a.name ++ (61 ∷ [])) in
    let whole : written_attributes (a ∷ x) ++ r ≡ before ++ (34 ∷ (a.value ++ (34 ∷ on))) =
    simp append_assoc in
    ap (scanned None pre) whole
    ∙ one-value pre before a.value on (up-unquoted a.name (name-unquoted a.name named)) q.0
    ∙ ap₂ (λ is_id more. value_if is_id a.value ++ more) (names-is pre a.name named)
    (attributes-scanned x r found tidy s [])
    ∙ sym (append_assoc (value_if (bytes_eq a.name (codes "id")) a.value) (values_in x) found))

-- `<`, a name, attributes and what ends them
tag-scanned : (name : List ℕ) (x : List Attribute) (ends r : List ℕ) (found : List (List ℕ)) →
    is_name name ≡ true → are_tidy x ≡ true → list_all no_quote ends ≡ true → IsScanned r found →
    IsScanned (60 ∷ (name ++ (written_attributes x ++ (ends ++ r)))) (values_in x ++ found)
tag-scanned name x ends r found named tidy quiet s =
    let bytes = (and_parts _ (list_all is_name_byte name) named).1 in
    past (60 ∷ name) (written_attributes x ++ (ends ++ r)) (values_in x ++ found)
    (name-unquoted name bytes)
    (attributes-scanned x (ends ++ r) found tidy (past ends r found quiet s))

forest-scanned : (f : Forest) (r : List ℕ) (found : List (List ℕ)) → is_forest f ≡ true →
    IsScanned r found → IsScanned (written f ++ r) (values f ++ found)
forest-scanned Empty r found h s = s
forest-scanned (Text bytes rest) r found h s =
    let p = and_parts _ (is_forest rest) h in
    let q = (and_parts _ _ (and_parts _ _ p.0).0).1 in
    subst (λ text. IsScanned text (values rest ++ found))
    (sym (append_assoc bytes (written rest) r))
    (past bytes (written rest ++ r) (values rest ++ found) (escaped-quote bytes q)
    (forest-scanned rest r found p.1 s))
forest-scanned (Void name x rest) r found h s =
    let p = and_parts (is_tag void_tags name x) (is_forest rest) h in
    let tidy = void-tidy name x p.0 in
    let whole : written (Void name x rest) ++ r
    ≡ 60 ∷ (name ++ (written_attributes x ++ (codes " />" ++ (written rest ++ r)))) =
    simp append_assoc in
    subst (λ text. IsScanned text (values (Void name x rest) ++ found)) (sym whole)
    (subst (IsScanned (60 ∷ (name ++ (written_attributes x ++ (codes " />" ++
    (written rest ++ r))))))
    (sym (append_assoc (values_in x) (values rest) found))
    (tag-scanned name x (codes " />") (written rest ++ r) (values rest ++ found) tidy.0 tidy.1 refl
    (forest-scanned rest r found p.1 s)))
forest-scanned (Element name x inner rest) r found h s =
    let p = and_parts _ (is_forest rest) h in
    let q = and_parts (is_tag elements name x) (is_forest inner) p.0 in
    let tidy = element-tidy name x q.0 in
    let bytes = (and_parts _ (list_all is_name_byte name) tidy.0).1 in
    let after = 60 ∷ 47 ∷ (name ++ (62 ∷ (written rest ++ r))) in
    let whole : written (Element name x inner rest) ++ r
    ≡ 60 ∷ (name ++ (written_attributes x ++ ((62 ∷ []) ++ (written inner ++ after)))) =
    simp append_assoc in
    let ends : IsScanned after (values rest ++ found) =
    past (60 ∷ 47 ∷ name) (62 ∷ (written rest ++ r)) (values rest ++ found)
    (name-unquoted name bytes)
    (past (62 ∷ []) (written rest ++ r) (values rest ++ found) refl
    (forest-scanned rest r found p.1 s)) in
    let assoc : values (Element name x inner rest) ++ found
    ≡ values_in x ++ (values inner ++ (values rest ++ found)) = simp append_assoc in
    subst (λ text. IsScanned text (values (Element name x inner rest) ++ found)) (sym whole)
    (subst (IsScanned (60 ∷ (name ++ (written_attributes x
    ++ ((62 ∷ []) ++ (written inner ++ after)))))) (sym assoc)
    (tag-scanned name x (62 ∷ []) (written inner ++ after) (values inner ++ (values rest ++ found))
    tidy.0 tidy.1 refl (forest-scanned inner after (values rest ++ found) q.1 ends)))

-- ---- ids

attributes-read : (x : List Attribute) → ids_in x ≡ map read_back (values_in x)
attributes-read [] = refl
attributes-read (a ∷ x) =
    ap₂ (λ a b. a ++ b) (one (bytes_eq a.name (codes "id"))) (attributes-read x)
    ∙ sym (map-append read_back (value_if (bytes_eq a.name (codes "id")) a.value) (values_in x))
  where
    one : (b : Bool) → cond b (read_back a.value ∷ []) [] ≡ map read_back (value_if b a.value)
    one true = refl
    one false = refl

forest-read : (f : Forest) → ids f ≡ map read_back (values f)
forest-read Empty = refl
forest-read (Text bytes rest) = forest-read rest
forest-read (Void name x rest) =
    ap₂ (λ a b. a ++ b) (attributes-read x) (forest-read rest)
    ∙ sym (map-append read_back (values_in x) (values rest))
forest-read (Element name x inner rest) =
    ap₂ (λ a b. a ++ b) (attributes-read x) (ap₂ (λ a b. a ++ b) (forest-read inner)
    (forest-read rest) ∙ sym (map-append read_back (values inner) (values rest)))
    ∙ sym (map-append read_back (values_in x) (values inner ++ values rest))

tag-escaped : (rules : List (List ℕ × List (List ℕ))) (name : List ℕ) (x : List Attribute) →
    is_tag rules name x ≡ true → list_all is_escaped (values_in x) ≡ true
tag-escaped [] name x h = lie h
tag-escaped (rule ∷ rules) name x h =
    let later = tag-escaped rules name x in grind (arith, listed, later, h)
  where
    listed : (list : List (List ℕ)) (x : List Attribute) → are_attributes list x ≡ true →
        list_all is_escaped (values_in x) ≡ true
    listed list [] h = refl
    listed list (a ∷ x) h = let later = listed list x in grind (arith, later, h)

forest-escaped : (f : Forest) → is_forest f ≡ true → list_all is_escaped (values f) ≡ true
forest-escaped Empty h = refl
forest-escaped (Text bytes rest) h = forest-escaped rest (and_parts _ (is_forest rest) h).1
forest-escaped (Void name x rest) h =
    let p = and_parts (is_tag void_tags name x) (is_forest rest) h in
    list_all-append is_escaped (values_in x) (values rest)
    ∙ and_from _ _ (tag-escaped void_tags name x p.0) (forest-escaped rest p.1)
forest-escaped (Element name x inner rest) h =
    let p = and_parts _ (is_forest rest) h in
    let q = and_parts (is_tag elements name x) (is_forest inner) p.0 in
    list_all-append is_escaped (values_in x) (values inner ++ values rest)
    ∙ and_from _ _ (tag-escaped elements name x q.0)
    (list_all-append is_escaped (values inner) (values rest)
    ∙ and_from _ _ (forest-escaped inner q.1) (forest-escaped rest p.1))

-- escaped texts that are read back alike are the same
read-same : (x y : List ℕ) → is_escaped x ≡ true → is_escaped y ≡ true →
    bytes_eq (read_back x) (read_back y) ≡ bytes_eq x y
read-same x y hx hy = elim (cases_Bool (bytes_eq x y)) [
  | inl same ↦
      (bytes_decides (read_back x) (read_back y)).1 (ap read_back ((bytes_decides x y).0 same))
      ∙ sym same
  | inr other ↦ elim (cases_Bool (bytes_eq (read_back x) (read_back y))) [
    | inl same ↦
        lie (sym other ∙ (bytes_decides x y).1 (sym (back x hx)
        ∙ ap (encoded true) ((bytes_decides (read_back x) (read_back y)).0 same) ∙ back y hy))
    | inr differ ↦ differ ∙ sym other
  ]
]
  where
    back : (x : List ℕ) → is_escaped x ≡ true → encoded true (read_back x) ≡ x
    back x h = by_escaped (λ x. encoded true (read_back x) ≡ x) refl
        (λ b rest p later. rw (read_back-other b rest (plain-ne b p)) (rw (
          encoded_byte-plain true b
              p.no_nul p.no_and p.no_quote p.no_less p.no_more,
          later,
        ) refl))
        (λ rest later. ap (λ y. codes "&amp;" ++ y) later)
        (λ rest later. ap (λ y. codes "&quot;" ++ y) later)
        (λ rest later. ap (λ y. codes "&lt;" ++ y) later)
        (λ rest later. ap (λ y. codes "&gt;" ++ y) later) x h

distinct-read : (xs : List (List ℕ)) → list_all is_escaped xs ≡ true →
    are_distinct (map read_back xs) ≡ are_distinct xs
distinct-read [] h = refl
distinct-read (x ∷ xs) h =
    let p = and_parts (is_escaped x) (list_all is_escaped xs) h in
    ap₂ (λ a b. not a && b) (any x xs p.0 p.1) (distinct-read xs p.1)
  where
    any : (x : List ℕ) (xs : List (List ℕ)) → is_escaped x ≡ true →
        list_all is_escaped xs ≡ true →
        list_any (λ y. bytes_eq y (read_back x)) (map read_back xs)
        ≡ list_any (λ y. bytes_eq y x) xs
    any x [] h k = refl
    any x (y ∷ xs) h k =
        let p = and_parts (is_escaped y) (list_all is_escaped xs) k in
        ap₂ (λ a b. a || b) (read-same y x p.0 h) (any x xs h p.1)

-- in the text of a forest the values are distinct exactly if its ids are
pub distinct-scanned : (f : Forest) → is_forest f ≡ true →
    are_distinct (scanned None [] (written f)) ≡ are_distinct (ids f)
distinct-scanned f h =
    ap are_distinct (ap (scanned None []) (sym (append-nil (written f)))
    ∙ forest-scanned f [] [] h (λ pre. refl) [] ∙ append-nil (values f))
    ∙ sym (ap are_distinct (forest-read f) ∙ distinct-read (values f) (forest-escaped f h))

-- ---- what is known

pub new-agree : (xs : List (List ℕ)) (f g : List ℕ → Bool) → ((w : List ℕ) → f w ≡ g w) →
    are_new f xs ≡ are_new g xs
new-agree [] f g h = refl
new-agree (x ∷ xs) f g h =
    ap₂ (λ a b. not a && b) (h x)
    (new-agree xs _ _ (λ y. ap (λ b. cond (bytes_eq x y) true b) (h y)))

new-known : (known : List ℕ → Bool) (xs : List (List ℕ)) →
    are_new known xs ≡ (list_all (λ x. not (known x)) xs && are_distinct xs)
new-known known [] = refl
new-known known (x ∷ xs) =
    ap (λ b. not (known x) && b) (new-known (λ y. cond (bytes_eq x y) true (known y)) xs
    ∙ ap (λ b. b && are_distinct xs) (none xs))
    ∙ algebra (known x) (list_all (λ x. not (known x)) xs) (list_any (λ y. bytes_eq y x) xs)
    (are_distinct xs)
  where
    algebra : (p q r s : Bool) → (not p && ((not r && q) && s)) ≡ ((not p && q) && (not r && s))
    algebra p q r s = grind arith

    turned : (x y : List ℕ) → bytes_eq x y ≡ bytes_eq y x
    turned x y = elim (cases_Bool (bytes_eq x y)) [
      | inl same ↦ same ∙ sym ((bytes_decides y x).1 (sym ((bytes_decides x y).0 same)))
      | inr other ↦ elim (cases_Bool (bytes_eq y x)) [
        | inl same ↦ lie (sym other ∙ (bytes_decides x y).1 (sym ((bytes_decides y x).0 same)))
        | inr differ ↦ other ∙ sym differ
      ]
    ]

    none : (xs : List (List ℕ)) → list_all (λ y. not (cond (bytes_eq x y) true (known y))) xs
        ≡ (not (list_any (λ y. bytes_eq y x) xs) && list_all (λ x. not (known x)) xs)
    none [] = refl
    none (y ∷ xs) =
        ap₂ (λ a b. not (cond a true (known y)) && b) (turned x y) (none xs)
        ∙ parts (bytes_eq y x) (known y) (list_any (λ y. bytes_eq y x) xs)
        (list_all (λ x. not (known x)) xs)
      where
        parts : (a b c d : Bool) →
            (not (cond a true b) && (not c && d)) ≡ (not (a || c) && (not b && d))
        parts a b c d = grind arith

-- with nothing known
pub new-distinct : (known : List ℕ → Bool) → ((w : List ℕ) → known w ≡ false) →
    (xs : List (List ℕ)) → are_new known xs ≡ are_distinct xs
new-distinct known none xs =
    new-known known xs ∙ ap (λ b. b && are_distinct xs) (all xs)
  where
    all : (xs : List (List ℕ)) → list_all (λ x. not (known x)) xs ≡ true
    all [] = refl
    all (x ∷ xs) = and_from _ _ (ap not (none x)) (all xs)

-- one more is new, and so are those after it
pub one-new : (known more : List ℕ → Bool) (value : List ℕ) (new : Bool)
    (later : List (List ℕ)) → new ≡ not (known value) →
    (new ≡ true → (w : List ℕ) → more w ≡ cond (bytes_eq value w) true (known w)) →
    are_new known (value ∷ later) ≡ (new && are_new more later)
one-new known more value new later is added = ap (λ b. b && rest) (sym is) ∙ by new refl
  where
    rest : Bool
    rest = are_new (λ y. cond (bytes_eq value y) true (known y)) later

    by : (b : Bool) → new ≡ b → (new && rest) ≡ (new && are_new more later)
    by true e = ap (λ x. new && x) (new-agree later _ _ (λ w. sym (added e w)))
    by false e = rw e refl

-- ---- where a quote is

pub no-quote : (x : List ℕ) → prefix_len no_quote x ≡ length x → list_all no_quote x ≡ true
no-quote [] h = refl
no-quote (b ∷ x) h = let later = no-quote x in grind (arith, later, h)

pub at-quote : (x : List ℕ) → prefix_len no_quote x < length x →
    (x ≡ take (prefix_len no_quote x) x ++ (34 ∷ drop (prefix_len no_quote x + 1) x))
    × (list_all no_quote (take (prefix_len no_quote x) x) ≡ true)
at-quote [] h = absurd (omega (arith, h))
at-quote (b ∷ x) h = elim (cases_Bool (b == 34)) [
  | inl is ↦ rw is (ap (λ b. b ∷ x) (eqb-true b 34 is), refl)
  | inr other ↦
      (let n = prefix_len no_quote x in
      let shorter : 1 + n < suc (length x) = rw other at h in
      let later = at-quote x (omega (arith, shorter)) in
      let more : suc n + 1 ≡ suc (n + 1) = omega arith in
      rw (other, ← next n, more)
      (ap (λ y. b ∷ y) later.0, and_from _ _ (ap not other) later.1))
]

pub at-first : (text : List ℕ) (r : Option (Bor (List ℕ) × Bor (List ℕ))) →
    MatchOption r (position_or_len (λ b. b == 34) text ≡ length text)
    (λ x. (x.0.now ≡ before_first (λ b. b == 34) text)
    × (x.1.now ≡ after_first (λ b. b == 34) text)
    × (position_or_len (λ b. b == 34) text < length text)) →
    MatchOption r (list_all no_quote text ≡ true)
    (λ found. (text ≡ found.0.now ++ (34 ∷ found.1.now))
    × (list_all no_quote found.0.now ≡ true))
at-first text None e = no-quote text e
at-first text (Some found) e =
    let p = at-quote text e.2 in (
      p.0 ∙ sym (ap₂ (λ a b. a ++ (34 ∷ b)) e.0 e.1),
      subst (λ x. list_all no_quote x ≡ true) (sym e.0) p.1,
    )
