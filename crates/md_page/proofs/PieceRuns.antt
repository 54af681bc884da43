-- Sound pieces are tokenized as their tokens.
use Rattle.std.proofs.Common.{arith, ◌≡◌, ℕ, true, false, not, List, [], ◌∷◌, ◌++◌, map, refl, sym}
use Rattle.std.proofs.Common.{ap}
use Rattle.std.proofs.Common.{◌∙◌, subst, append_assoc, append-nil}
use Rattle.std.proofs.lemmas.Bool.{and_parts}
use Rattle.md_text.specs.Bytes.{is_one_of}
use Rattle.md_text.specs.References.{is_escaped}
use Rattle.md_text.specs.Html.{Attribute, written_attributes}
use Rattle.md_text.proofs.HtmlWriting.{attributes_before, written_attributes-before}
use Rattle.md_safe.specs.Input.{with_line_feeds, begins_with_line_feed}
use Rattle.md_safe.specs.Token.{Token, Character, EndOfFile}
use Rattle.md_safe.specs.TokenizerStates.{Data}
use Rattle.md_safe.specs.Tokenizer.{IsTokenized}
use Rattle.md_safe.specs.Tokens.{seen}
use Rattle.md_safe.proofs.LineFeeds.{line_feeds-append, line_feeds-escaped}
use Rattle.md_safe.proofs.GoodNames.{is_good_name, are_good}
use Rattle.md_safe.proofs.Steps.{along}
use Rattle.md_safe.proofs.TextLeads.{text-runs}
use Rattle.md_safe.proofs.TagLeads.{lined, line_feeds-attributes, element-runs, void-runs, end-runs}
use Rattle.md_safe.proofs.ForestLeads.{good-line_feeds}
use Rattle.md_page.specs.Pieces.{Piece, Words, Opening, Single, Closing, all_written, all_tokens}
use Rattle.md_page.specs.Pieces.{are_sound, are_plain, is_tag_name, void_names, begins_with_words}
use Rattle.md_page.specs.PageAround.{going_on}
use Rattle.md_page.proofs.Plain.{and3, good_name, good_attributes, void-name}

-- after a text no line feed comes
after_words : (x : List Piece) (r : List ℕ) → not (begins_with_words x) ≡ true →
    begins_with_line_feed r ≡ false → begins_with_line_feed (all_written x ++ r) ≡ false
after_words x r h n = grind arith

pub after_text : (x : List Piece) → not (begins_with_words x) ≡ true →
    begins_with_line_feed (all_written x) ≡ false
after_text x h = grind arith

pub characters-on : (x : List ℕ) (more t : List Token) →
    going_on (map Character x ++ more) t ≡ map Character x ++ going_on more t
characters-on [] more t = refl
characters-on (b ∷ x) more t = ap (λ y. Character b ∷ y) (characters-on x more t)

-- a tag from its name to its end, before more pieces and what follows them
tag-line_feeds : (name : List ℕ) (x : List Attribute) (ends more r : List ℕ) →
    is_good_name name ≡ true → are_good x ≡ true →
    name ++ attributes_before (lined x) (with_line_feeds (ends ++ (more ++ r)))
    ≡ with_line_feeds ((name ++ (written_attributes x ++ (ends ++ more))) ++ r)
tag-line_feeds name x ends more r g h =
    grind (arith, line_feeds-attributes, good-line_feeds, written_attributes-before, append_assoc)

pub pieces-before : (x : List Piece) (r : List ℕ) (t : List Token) → are_sound x ≡ true →
    begins_with_line_feed r ≡ false → IsTokenized r t →
    IsTokenized (all_written x ++ r) (going_on (all_tokens x) t)
pieces-before [] r t h n k = k
pieces-before (Words text ∷ more) r t h n k =
    let q = and3 (is_escaped text) _ (are_sound more) h in
    along Data _ _ _ _ (sym (ap with_line_feeds (append_assoc text (all_written more) r)
    ∙ line_feeds-append text (all_written more ++ r) (after_words more r q.1 n)))
    (sym (characters-on (seen text) (all_tokens more) t))
    (text-runs (with_line_feeds text) (line_feeds-escaped text q.0)
    (with_line_feeds (all_written more ++ r)) (going_on (all_tokens more) t)
    (pieces-before more r t q.2 n k))
pieces-before (Opening name x ∷ more) r t h n k =
    let q = and3 (is_tag_name name) (are_plain x) (are_sound more) h in
    let good = good_name name q.0 in
    let fine = good_attributes x q.1 in
    along Data _ _ _ _
    (ap (λ y. 60 ∷ y) (tag-line_feeds name x (62 ∷ []) (all_written more) r good fine)) refl
    (element-runs name x _ _ good fine (pieces-before more r t q.2 n k))
pieces-before (Single name x ∷ more) r t h n k =
    let q = and3 (is_one_of void_names name) (are_plain x) (are_sound more) h in
    let good = void-name is_good_name name refl q.0 in
    let fine = good_attributes x q.1 in
    along Data _ _ _ _ (ap (λ y. 60 ∷ y)
    (tag-line_feeds name x (32 ∷ 47 ∷ 62 ∷ []) (all_written more) r good fine)) refl
    (void-runs name x _ _ good fine (pieces-before more r t q.2 n k))
pieces-before (Closing name ∷ more) r t h n k =
    let q = and_parts (is_tag_name name) (are_sound more) h in
    let good = good_name name q.0 in
    along Data _ _ _ _ (ap (λ y. 60 ∷ 47 ∷ y)
    (sym (ap with_line_feeds (append_assoc name (62 ∷ all_written more) r)
    ∙ good-line_feeds name (62 ∷ (all_written more ++ r)) good))) refl
    (end-runs name _ _ good (pieces-before more r t q.1 n k))

-- in place of the end of file the end of file
on-end : (x : List Piece) → going_on (all_tokens x) (EndOfFile ∷ []) ≡ all_tokens x
on-end [] = refl
on-end (Words text ∷ more) = rw (characters-on (seen text) (all_tokens more), on-end more) refl
on-end (Opening name x ∷ more) = rw (on-end more) refl
on-end (tag ∷ more) = rw (on-end more) refl

pub pieces-run : (x : List Piece) → are_sound x ≡ true → IsTokenized (all_written x) (all_tokens x)
pieces-run x h =
    subst (λ y. IsTokenized y (all_tokens x)) (append-nil (all_written x))
    (subst (IsTokenized (all_written x ++ [])) (on-end x)
    (pieces-before x [] (EndOfFile ∷ []) h refl record { steps = 1; emits = refl }))
