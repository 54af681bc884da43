-- Each id among the tokens of a text stands in quotes after ` id=`.
use Rattle.std.specs.Str.{bytes_eq}
use Rattle.std.proofs.Common.{◌≡◌, ℕ, true, cond, List, [], ◌∷◌, ◌++◌, map, inl, inr, arith}
use Rattle.std.proofs.Common.{refl, sym, ap, ◌∙◌, subst, append_assoc, codes}
use Rattle.std.specs.List.{list_all}
use Rattle.std.specs.Cmp.Lexicographic.{bytes_decides}
use Rattle.std.proofs.lemmas.Bool.{and_parts, and_from, or_left, or_right, cases_Bool}
use Rattle.std.proofs.lemmas.List.Prefix.{end_rest}
use Rattle.md_base.proofs.Lies.{lie}
use Rattle.md_text.specs.Bytes.{is_one_of}
use Rattle.md_text.specs.Encode.{encoded}
use Rattle.md_text.specs.Html.{Attribute, written_attributes}
use Rattle.md_safe.specs.Input.{with_line_feeds}
use Rattle.md_safe.specs.Token.{Token, Character}
use Rattle.md_safe.specs.Tokenizer.{IsTokenized}
use Rattle.md_safe.specs.Tokens.{seen, seen_attributes}
use Rattle.md_safe.proofs.Cases.{either}
use Rattle.md_page.specs.GivenIds.{is_among}
use Rattle.md_page.specs.Ids.{ids_in, ids_among}
use Rattle.md_page.specs.Pieces.{Piece, Words, Opening, Single, Closing, all_written, all_tokens}
use Rattle.md_page.specs.Pieces.{are_sound, are_plain, is_name_byte, is_tag_name, void_names}
use Rattle.md_page.specs.Pieces.{IsWritten}
use Rattle.md_page.specs.Scan.{differs, ends_at_id, ids_in_parts, scanned_ids}
use Rattle.md_page.proofs.Distinct.{in-append}
use Rattle.md_page.proofs.HeadingTexts.{encoded-seen}
use Rattle.md_page.proofs.Parts.{is_filled, parts-filled, parts-run}
use Rattle.md_page.proofs.Plain.{and3, plain_attribute, name_bytes, void-name}
use Rattle.md_page.proofs.Rules.{attributed}
use Rattle.md_page.proofs.Tags.{escaped-differs, name-differs, all-join}

-- no `"`
abbrev Unquoted : List ℕ → Type 0
Unquoted x = list_all (differs 34) x ≡ true

-- each of some ids is among some as they are written
abbrev AreFound : List (List ℕ) → List (List ℕ) → Type 0
AreFound ids found =
    (id : List ℕ) → is_among id ids ≡ true → is_among (encoded true id) found ≡ true

-- they are found in a text, after any other text without `"`
abbrev FoundAfter : List (List ℕ) → List ℕ → Type 0
FoundAfter ids text = (pre : List ℕ) → Unquoted pre → AreFound ids (scanned_ids (pre ++ text))

after : (x r : List ℕ) (ids : List (List ℕ)) → Unquoted x → FoundAfter ids r →
    FoundAfter ids (x ++ r)
after x r ids unquoted found pre u id k =
    rw (← append_assoc pre x r) (found (pre ++ x) (all-join (differs 34) pre x u unquoted) id k)

-- ---- parts

step : (before value : List ℕ) (parts : List (List ℕ)) → is_filled parts ≡ true →
    ids_in_parts (before ∷ value ∷ parts)
    ≡ cond (ends_at_id before) (with_line_feeds value ∷ []) [] ++ ids_in_parts parts
step before value [] h = lie h
step before value (part ∷ more) h = refl

at_id : (x : List ℕ) → ends_at_id (x ++ codes " id=") ≡ true
at_id x = rw (end_rest (x ++ codes " id=") (codes " id=") x refl) refl

-- a value after the text before it
value_step : (before value rest : List ℕ) → Unquoted before → Unquoted value →
    scanned_ids (before ++ (34 ∷ (value ++ (34 ∷ rest))))
    ≡ cond (ends_at_id before) (with_line_feeds value ∷ []) [] ++ scanned_ids rest
value_step before value rest b v = grind (arith, parts-run, step, parts-filled)

-- ---- attributes

-- the text up to a value
abbrev up_to : List ℕ → List ℕ → List ℕ
up_to pre name = pre ++ (32 ∷ (name ++ (61 ∷ [])))

-- if the ids in what follows are found after any such text, so are those of the attributes
attributes_found : (x : List Attribute) (r : List ℕ) (later : List (List ℕ)) →
    are_plain x ≡ true → FoundAfter later r →
    FoundAfter (ids_in (seen_attributes x) ++ later) (written_attributes x ++ r)
attributes_found [] r later plain f pre u id h = f pre u id h
attributes_found (a ∷ x) r later plain f pre u id h =
    let p = plain_attribute a x plain in
    let name : Unquoted a.name =
    name-differs 34 a.name refl (and_parts _ (list_all is_name_byte a.name) p.0).1 in
    let unquoted : Unquoted (up_to pre a.name) = grind (arith, all-join) in
    let whole : pre ++ (written_attributes (a ∷ x) ++ r)
    ≡ up_to pre a.name ++ (34 ∷ (a.value ++ (34 ∷ (written_attributes x ++ r)))) =
    simp append_assoc in
    let k = attributes_found x r later p.3 f [] refl id in
    subst (λ found. is_among (encoded true id) found ≡ true)
    (sym (ap scanned_ids whole ∙ value_step (up_to pre a.name) a.value (written_attributes x ++ r)
    unquoted (escaped-differs 34 a.value (λ rest. refl) p.1)))
    (elim (cases_Bool (bytes_eq (codes "id") a.name)) [
      | inl is ↦
          (let ends : ends_at_id (up_to pre a.name) ≡ true =
          ap (λ name. ends_at_id (up_to pre name)) (sym ((bytes_decides (codes "id") a.name).0 is))
          ∙ at_id pre in
          rw ends (either (bytes_eq (seen a.value) id) _ (rw is at h)
          (λ same. or_left _ _ ((bytes_decides (with_line_feeds a.value) (encoded true id)).1
          (sym (encoded-seen a.value p.1)
          ∙ ap (encoded true) ((bytes_decides (seen a.value) id).0 same))))
          (λ another. or_right _ _ (k another))))
      | inr no_id ↦ grind (arith, in-append)
    ])

-- ---- pieces

ids-characters : (x : List ℕ) (more : List Token) →
    ids_among (map Character x ++ more) ≡ ids_among more
ids-characters [] more = refl
ids-characters (b ∷ x) more = ids-characters x more

-- a start tag with this end
tag_found : (name : List ℕ) (x : List Attribute) (ends : List ℕ) (more : List Piece) →
    list_all is_name_byte name ≡ true → are_plain x ≡ true → Unquoted ends →
    FoundAfter (ids_among (all_tokens more)) (all_written more) →
    FoundAfter (ids_in (seen_attributes x) ++ ids_among (all_tokens more))
    (60 ∷ (name ++ (written_attributes x ++ (ends ++ all_written more))))
tag_found name x ends more named plain unquoted found =
    let ids = ids_among (all_tokens more) in
    let on = ends ++ all_written more in
    after (60 ∷ name) (written_attributes x ++ on) (ids_in (seen_attributes x) ++ ids)
    (and_from _ _ refl (name-differs 34 name refl named))
    (attributes_found x on ids plain (after ends (all_written more) ids unquoted found))

pieces_found : (x : List Piece) → are_sound x ≡ true →
    FoundAfter (ids_among (all_tokens x)) (all_written x)
pieces_found [] h = λ pre u id k. lie k
pieces_found (Words text ∷ more) h =
    grind (arith, ids-characters, after, escaped-differs, pieces_found more)
pieces_found (Opening name x ∷ more) h =
    let q = and3 (is_tag_name name) (are_plain x) (are_sound more) h in
    tag_found name x (62 ∷ []) more (name_bytes name q.0) q.1 refl (pieces_found more q.2)
pieces_found (Single name x ∷ more) h =
    let q = and3 (is_one_of void_names name) (are_plain x) (are_sound more) h in
    tag_found name x (32 ∷ 47 ∷ 62 ∷ []) more
    (void-name (list_all is_name_byte) name refl q.0) q.1 refl (pieces_found more q.2)
pieces_found (Closing name ∷ more) h =
    let q = and_parts (is_tag_name name) (are_sound more) h in
    let ids = ids_among (all_tokens more) in
    after (60 ∷ 47 ∷ name) (62 ∷ all_written more) ids
    (and_from _ _ refl (and_from _ _ refl (name-differs 34 name refl (name_bytes name q.0))))
    (after (62 ∷ []) (all_written more) ids refl (pieces_found more q.1))

-- ---- of a text that is written in sound pieces
pub found-tokens : (text : List ℕ) → IsWritten text → (x : List Token) → IsTokenized text x →
    (id : List ℕ) → is_among id (ids_among x) ≡ true →
    is_among (encoded true id) (scanned_ids text) ≡ true
unfolding attributed
found-tokens text w x h id k =
    ap (λ t. is_among (encoded true id) (scanned_ids t)) (sym w.written_so)
    ∙ pieces_found w.pieces w.sound [] refl id
    (sym (ap (λ y. is_among id (ids_among y)) ((attributed text w).only x h)) ∙ k)

-- ---- iterations

pub id-turn : (before value more : List ℕ) (found : List (List ℕ)) {after rest : List ℕ}
    {found' whole : List (List ℕ)} →
    rest ≡ before ++ (34 ∷ after) → list_all (differs 34) before ≡ true →
    after ≡ value ++ (34 ∷ more) → list_all (differs 34) value ≡ true →
    found' ≡ found ++ cond (ends_at_id before) (with_line_feeds value ∷ []) [] →
    found ++ scanned_ids rest ≡ whole → found' ++ scanned_ids more ≡ whole
id-turn before value more found is b also v put all = grind (arith, value_step, append_assoc)
