-- The text of a heading by its bytes is that by its tokens.
use Rattle.std.specs.Str.{bytes_eq}
use Rattle.std.proofs.Common.{◌≡◌, ℕ, ◌==◌, true, false, cond, List, [], ◌∷◌, ◌++◌, inl, inr, arith}
use Rattle.std.proofs.Common.{map, drop, refl, ap, ◌∙◌, append_assoc, codes, eq-eqb}
use Rattle.std.specs.List.{list_all}
use Rattle.std.specs.Cmp.Lexicographic.{bytes_decides}
use Rattle.std.proofs.lemmas.Bool.{and_parts, and_from, not-true, cond-true, cases_Bool}
use Rattle.std.proofs.lemmas.Bool.{cond-false}
use Rattle.md_text.specs.Bytes.{is_one_of}
use Rattle.md_text.specs.Encode.{encoded}
use Rattle.md_text.specs.References.{is_escaped, read_back}
use Rattle.md_text.specs.Html.{written_attributes}
use Rattle.md_text.proofs.EncodeLaws.{read_back-other}
use Rattle.md_text.proofs.EncodeLemmas.{encoded-append, encoded_byte-plain}
use Rattle.md_text.proofs.HtmlSplit.{split}
use Rattle.md_text.proofs.HtmlReading.{tail_of}
use Rattle.md_safe.specs.Input.{with_line_feeds, begins_with_line_feed}
use Rattle.md_safe.specs.Token.{Token, Character}
use Rattle.md_safe.specs.Tokens.{seen}
use Rattle.md_safe.proofs.EscapedCases.{by_escaped, begins-is}
use Rattle.md_safe.proofs.LineFeeds.{one-append, line_feeds-escaped}
use Rattle.md_safe.proofs.Steps.{plain-ne}
use Rattle.md_page.specs.Added.{characters_before}
use Rattle.md_page.specs.Pieces.{Piece, Words, Opening, Single, Closing, all_written, all_tokens}
use Rattle.md_page.specs.Pieces.{are_sound, are_plain, is_name_byte, is_tag_name, void_names}
use Rattle.md_page.specs.Pieces.{begins_with_letter}
use Rattle.md_page.specs.Scan.{differs, past_angle, lined_byte, closes_heading, text_before}
use Rattle.md_page.proofs.Plain.{and3, name_bytes, void-name}
use Rattle.md_page.proofs.PieceRuns.{after_text}
use Rattle.md_page.proofs.Tags.{is_sound_tag, inside, tag-written, tag-differs, escaped-differs}
use Rattle.md_page.proofs.LinkRule.{both}

-- ---- texts

-- what is escaped is what is read back, escaped
encoded-back : (x : List ℕ) → is_escaped x ≡ true → encoded true (read_back x) ≡ x
encoded-back x h =
    by_escaped (λ x. encoded true (read_back x) ≡ x) refl
    (λ b rest p later. rw (read_back-other b rest (plain-ne b p))
    (rw (encoded_byte-plain true b p.no_nul p.no_and p.no_quote p.no_less p.no_more, later) refl))
    (λ rest later. ap (λ y. codes "&amp;" ++ y) later)
    (λ rest later. ap (λ y. codes "&quot;" ++ y) later)
    (λ rest later. ap (λ y. codes "&lt;" ++ y) later)
    (λ rest later. ap (λ y. codes "&gt;" ++ y) later) x h

pub encoded-seen : (x : List ℕ) → is_escaped x ≡ true → encoded true (seen x) ≡ with_line_feeds x
encoded-seen x h = encoded-back (with_line_feeds x) (line_feeds-escaped x h)

pub lined-step : (b : ℕ) (rest : List ℕ) →
    with_line_feeds (b ∷ rest) ≡ lined_byte b rest ++ with_line_feeds rest
lined-step b rest = one-append b (begins_with_line_feed rest) [] (with_line_feeds rest)

lined-append : (b : ℕ) (x r : List ℕ) → begins_with_line_feed r ≡ false →
    lined_byte b (x ++ r) ≡ lined_byte b x
lined-append b [] r h = ap (λ t. cond (b == 13) (cond t [] (10 ∷ [])) (b ∷ [])) h
lined-append b (c ∷ x) r h = refl

-- a text outside tags, before what doesn't begin with a line feed
pub text-run : (digit : ℕ) (x r : List ℕ) → list_all (differs 60) x ≡ true →
    begins_with_line_feed r ≡ false →
    text_before digit false (x ++ r) ≡ with_line_feeds x ++ text_before digit false r
text-run digit [] r h n = refl
text-run digit (b ∷ x) r h n =
    let p = and_parts (differs 60 b) (list_all (differs 60) x) h in
    rw (not-true (b == 60) p.0, lined-append b x r n, text-run digit x r p.1 n, lined-step b x)
    (rw append_assoc refl)

pub past-run : (x r : List ℕ) → list_all (differs 62) x ≡ true → past_angle (x ++ (62 ∷ r)) ≡ r
past-run [] r h = refl
past-run (b ∷ x) r h = let later = past-run x r in grind (arith, later, h)

pub past-none : (x : List ℕ) → list_all (differs 62) x ≡ true → past_angle x ≡ []
past-none [] h = refl
past-none (b ∷ x) h = let later = past-none x in grind (arith, later, h)

-- the inside of a tag is removed
pub text-inside : (digit : ℕ) (x : List ℕ) →
    text_before digit true x ≡ text_before digit false (past_angle x)
text-inside digit [] = refl
text-inside digit (b ∷ x) = let later = text-inside digit x in grind (arith, later)

-- a `<` before an end tag of the heading, and before any other tag
pub text-closes : (digit : ℕ) (tag : List ℕ) → closes_heading digit tag ≡ true →
    text_before digit false (60 ∷ tag) ≡ []
text-closes digit tag e = cond-true (closes_heading digit tag) _ _ e

pub text-opens : (digit : ℕ) (tag : List ℕ) → closes_heading digit tag ≡ false →
    text_before digit false (60 ∷ tag) ≡ text_before digit true tag
text-opens digit tag e = cond-false (closes_heading digit tag) _ _ e

-- ---- the text of a heading, over pieces
characters-run : (name x : List ℕ) (more : List Token) →
    characters_before name (map Character x ++ more) ≡ x ++ characters_before name more
characters-run name [] more = refl
characters-run name (b ∷ x) more = ap (λ y. b ∷ y) (characters-run name x more)

no_slash : (digit : ℕ) (name x r : List ℕ) → begins_with_letter name ≡ true →
    closes_heading digit ((name ++ x) ++ r) ≡ false
no_slash digit name x r h = grind arith

-- an end tag is the heading's exactly if it has its name
closes-name : (digit : ℕ) (name r : List ℕ) → is_name_byte digit ≡ true →
    list_all is_name_byte name ≡ true →
    closes_heading digit (47 ∷ (name ++ (62 ∷ r))) ≡ bytes_eq name (104 ∷ digit ∷ [])
closes-name digit name r d h =
    both (closes_heading digit (47 ∷ (name ++ (62 ∷ r)))) (bytes_eq name (104 ∷ digit ∷ []))
    (λ e. (let text = 47 ∷ (name ++ (62 ∷ r)) in
    let rest = drop 4 text in
    let is : name ++ (62 ∷ r) ≡ 104 ∷ digit ∷ 62 ∷ rest =
    tail_of 47 47 _ _ (begins-is (47 ∷ 104 ∷ digit ∷ 62 ∷ []) text e) in
    (bytes_decides name (104 ∷ digit ∷ [])).1
    (split is_name_byte name (104 ∷ digit ∷ []) (62 ∷ r) (62 ∷ rest) h
    (and_from (is_name_byte digit) true d refl) refl refl is).0))
    (λ e. rw ((bytes_decides name (104 ∷ digit ∷ [])).0 e, eq-eqb digit digit refl) refl)

-- a tag that doesn't end the heading
passed : (digit : ℕ) (tag : Piece) (more : List Piece) → is_sound_tag tag ≡ true →
    closes_heading digit (inside tag ++ (62 ∷ all_written more)) ≡ false →
    text_before digit false (all_written (tag ∷ more)) ≡ text_before digit false (all_written more)
passed digit tag more sound on = grind (arith, tag-written, text-inside, past-run, tag-differs)

pub text-pieces : (digit : ℕ) (x : List Piece) → is_name_byte digit ≡ true → are_sound x ≡ true →
    text_before digit false (all_written x)
    ≡ encoded true (characters_before (104 ∷ digit ∷ []) (all_tokens x))
text-pieces digit [] d h = refl
text-pieces digit (Words text ∷ more) d h =
    let run = text-run digit text in
    let back = encoded-seen text in
    let later = text-pieces digit more d in
    grind (arith, run, escaped-differs, after_text, characters-run, encoded-append, back, later)
text-pieces digit (Opening name x ∷ more) d h =
    let q = and3 (is_tag_name name) (are_plain x) (are_sound more) h in
    passed digit (Opening name x) more (and_from _ _ q.0 q.1)
    (no_slash digit name (written_attributes x) (62 ∷ all_written more)
    (and_parts (begins_with_letter name) _ q.0).0) ∙ text-pieces digit more d q.2
text-pieces digit (Single name x ∷ more) d h =
    let q = and3 (is_one_of void_names name) (are_plain x) (are_sound more) h in
    passed digit (Single name x) more (and_from _ _ q.0 q.1)
    (no_slash digit name (written_attributes x ++ (32 ∷ 47 ∷ [])) (62 ∷ all_written more)
    (void-name begins_with_letter name refl q.0)) ∙ text-pieces digit more d q.2
text-pieces digit (Closing name ∷ more) d h =
    let q = and_parts (is_tag_name name) (are_sound more) h in
    let ends = closes-name digit name (all_written more) d (name_bytes name q.0) in
    elim (cases_Bool (bytes_eq name (104 ∷ digit ∷ []))) [
      | inl e ↦ rw e (text-closes digit (47 ∷ (name ++ (62 ∷ all_written more))) (ends ∙ e))
      | inr e ↦
          rw e (passed digit (Closing name) more q.0 (ends ∙ e) ∙ text-pieces digit more d q.1)
    ]
