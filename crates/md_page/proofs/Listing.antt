-- The headings that are found by bytes are those of the tokens.
use Rattle.std.proofs.Common.{◌≡◌, ℕ, ◌-◌, suc, true, false, List, [], inl, inr, arith}
use Rattle.std.proofs.Common.{◌∷◌, ◌++◌, map, refl, sym, ap, ap₂, ◌∙◌}
use Rattle.std.specs.List.{list_all}
use Rattle.std.proofs.lemmas.Bool.{and_parts, and_from, cond-true, cond-false, cases_Bool}
use Rattle.md_text.specs.Bytes.{is_one_of}
use Rattle.md_text.specs.Html.{Attribute, written_attributes}
use Rattle.md_safe.specs.Token.{Token, Character, StartTag}
use Rattle.md_safe.specs.Tokenizer.{IsTokenized}
use Rattle.md_safe.specs.Tokens.{seen_attributes}
use Rattle.md_page.specs.Added.{gets_id, heading_names, heading_of, headings_after, headings_of}
use Rattle.md_page.specs.Pieces.{Piece, Words, Opening, Single, Closing, all_written, all_tokens}
use Rattle.md_page.specs.Pieces.{are_sound, are_plain, is_name_byte, is_tag_name, void_names}
use Rattle.md_page.specs.Pieces.{IsWritten}
use Rattle.md_page.specs.Scan.{differs, text_before, picks_heading, scanned_heading}
use Rattle.md_page.specs.Scan.{scanned_headings}
use Rattle.md_page.proofs.Plain.{and3}
use Rattle.md_page.proofs.Tags.{is_sound_tag, token_of, inside, tag-written, picks-tag, tag-differs}
use Rattle.md_page.proofs.Tags.{escaped-differs, opens, closes}
use Rattle.md_page.proofs.Rules.{attributed}
use Rattle.md_page.proofs.HeadingRule.{by_heading, heading-picks}
use Rattle.md_page.proofs.HeadingTexts.{past-run, text-pieces}

-- ---- the headings

-- no heading begins in what has no `<`
pub headings-run : (n : ℕ) (x r : List ℕ) → list_all (differs 60) x ≡ true →
    scanned_headings n (x ++ r) ≡ scanned_headings n r
headings-run n [] r h = refl
headings-run n (b ∷ x) r h = let later = headings-run n x r in grind (arith, later, h)

pub headings-picked : (n : ℕ) (tag : List ℕ) → picks_heading tag ≡ true →
    scanned_headings n (60 ∷ tag) ≡ scanned_heading (suc n) tag ∷ scanned_headings (suc n) tag
headings-picked n tag e = cond-true (picks_heading tag) _ _ e

headings-characters : (n : ℕ) (x : List ℕ) (more : List Token) →
    headings_after n (map Character x ++ more) ≡ headings_after n more
headings-characters n [] more = refl
headings-characters n (b ∷ x) more = headings-characters n x more

-- a heading, by its bytes and by its token
one_heading : (n : ℕ) (name : List ℕ) (x : List Attribute) (more : List Piece) →
    is_one_of heading_names name ≡ true → are_plain x ≡ true → are_sound more ≡ true →
    scanned_heading (suc n) (inside (Opening name x) ++ (62 ∷ all_written more))
    ≡ heading_of n (token_of (Opening name x)) (all_tokens more)
one_heading n name x more named plain sound =
    by_heading (λ name. scanned_heading (suc n) (inside (Opening name x) ++ (62 ∷ all_written more))
    ≡ heading_of n (token_of (Opening name x)) (all_tokens more))
    (at 49 refl refl) (at 50 refl refl) (at 51 refl refl) (at 52 refl refl) (at 53 refl refl)
    (at 54 refl refl) name named
  where
    at : (digit : ℕ) → is_name_byte digit ≡ true → is_tag_name (104 ∷ digit ∷ []) ≡ true →
        scanned_heading (suc n) (104 ∷ digit ∷ (written_attributes x ++ (62 ∷ all_written more)))
        ≡ heading_of n (StartTag (104 ∷ digit ∷ []) (seen_attributes x) false) (all_tokens more)
    at digit d tag_name =
        let tag = Opening (104 ∷ digit ∷ []) x in
        let bytes = tag-differs 62 tag closes (and_from _ _ tag_name plain) in
        ap (λ t. record { level = digit - 48; number = suc n; text = t })
        (ap (text_before digit false) (past-run (inside tag) (all_written more) bytes)
        ∙ text-pieces digit more d sound)

-- a tag that isn't picked
unpicked : (n : ℕ) (tag : Piece) (more : List Piece) → is_sound_tag tag ≡ true →
    picks_heading (inside tag ++ (62 ∷ all_written more)) ≡ false →
    scanned_headings n (all_written (tag ∷ more)) ≡ scanned_headings n (all_written more)
unpicked n tag more sound e = grind (arith, tag-written, headings-run, tag-differs)

pub headings-pieces : (n : ℕ) (x : List Piece) → are_sound x ≡ true →
    scanned_headings n (all_written x) ≡ headings_after n (all_tokens x)
headings-pieces n [] h = refl
headings-pieces n (Words text ∷ more) h =
    grind (arith, headings-run, escaped-differs, opens, headings-characters, headings-pieces n more)
headings-pieces n (Opening name x ∷ more) h =
    let q = and3 (is_tag_name name) (are_plain x) (are_sound more) h in
    let tag = Opening name x in
    let text = inside tag ++ (62 ∷ all_written more) in
    let sound : is_sound_tag tag ≡ true = and_from _ _ q.0 q.1 in
    let picks = picks-tag heading-picks tag (all_written more) sound in
    elim (cases_Bool (gets_id (token_of tag))) [
      | inl e ↦ rw e (ap (scanned_headings n) (tag-written tag more sound)
          ∙ headings-picked n text (picks ∙ e)
          ∙ ap₂ (λ y z. y ∷ z)
          (one_heading n name x more (and_parts (is_one_of heading_names name) _ e).0 q.1 q.2)
          (headings-run (suc n) (inside tag) (62 ∷ all_written more)
          (tag-differs 60 tag opens sound) ∙ headings-pieces (suc n) more q.2))
      | inr e ↦ rw e (unpicked n tag more sound (picks ∙ e) ∙ headings-pieces n more q.2)
    ]
headings-pieces n (Single name x ∷ more) h =
    let q = and3 (is_one_of void_names name) (are_plain x) (are_sound more) h in
    let tag = Single name x in
    let sound : is_sound_tag tag ≡ true = and_from _ _ q.0 q.1 in
    let none = heading-picks.void_tokens name (seen_attributes x) q.0 in
    unpicked n tag more sound (picks-tag heading-picks tag (all_written more) sound ∙ none)
    ∙ headings-pieces n more q.2 ∙ sym (cond-false (gets_id (token_of tag)) _ _ none)
headings-pieces n (Closing name ∷ more) h =
    let q = and_parts (is_tag_name name) (are_sound more) h in
    unpicked n (Closing name) more q.0 (heading-picks.ends (name ++ (62 ∷ all_written more)))
    ∙ headings-pieces n more q.1

-- ---- of a text that is written in sound pieces
pub listed-tokens : (text : List ℕ) → IsWritten text → (x : List Token) → IsTokenized text x →
    scanned_headings 0 text ≡ headings_of x
unfolding attributed
listed-tokens text w x h =
    ap (scanned_headings 0) (sym w.written_so) ∙ headings-pieces 0 w.pieces w.sound
    ∙ ap (headings_after 0) (sym ((attributed text w).only x h))
