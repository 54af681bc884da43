-- What a safe text is read as, piece by piece.
use Rattle.std.proofs.Common.{◌≡◌, ℕ, Bool, true, not, List, [], ◌∷◌, ◌++◌, arith}
use Rattle.std.proofs.Common.{filter, refl, ◌∙◌, append-nil, append_assoc}
use Rattle.std.specs.List.{list_all}
use Rattle.std.proofs.lemmas.Bool.{and_parts, and_from}
use Rattle.md_text.specs.Html.{Forest, Empty, Text, Void, Element, is_forest, is_tag}
use Rattle.md_text.specs.Html.{begins_with_text, elements, void_tags, written, HasOneReadingWith}
use Rattle.md_text.specs.Safe.{is_safe_link, is_safe_image}
use Rattle.md_safe.specs.Token.{Token, StartTag, EndOfFile, TokenAttribute}
use Rattle.md_safe.specs.Tokens.{tokens, is_listed, is_tag_of}
use Rattle.md_safe.proofs.Cases.{all-weaker}
use Rattle.md_safe.proofs.TokenTests.{all-append, all-tokens, forest-listed}
use Rattle.md_safe.proofs.SafeTokens.{links-pass, images-pass}
use Rattle.md_page.specs.Attributed.{is_addition, is_listed_beside}
use Rattle.md_page.specs.Built.{is_plain_forest}
use Rattle.md_page.specs.Pieces.{Piece, Words, Opening, Single, Closing, all_written, all_tokens}
use Rattle.md_page.specs.Pieces.{are_plain, is_tag_name, are_sound, begins_with_words, IsWritten}
use Rattle.md_page.proofs.Plain.{element-plain, void-plain, and3}

-- the pieces of a forest, and what follows them
abbrev pub pieces_of : Forest → List Piece → List Piece
pieces_of Empty more = more
pieces_of (Text bytes rest) more = Words bytes ∷ pieces_of rest more
pieces_of (Void name x rest) more = Single name x ∷ pieces_of rest more
pieces_of (Element name x children rest) more =
    Opening name x ∷ pieces_of children (Closing name ∷ pieces_of rest more)

pieces-written : (f : Forest) (more : List Piece) →
    all_written (pieces_of f more) ≡ written f ++ all_written more
pieces-written Empty more = refl
pieces-written (Text bytes rest) more = simp (pieces-written rest more, append_assoc)
pieces-written (Void name x rest) more = simp (pieces-written rest more, append_assoc)
pieces-written (Element name x inner rest) more =
    rw (pieces-written inner (Closing name ∷ pieces_of rest more), pieces-written rest more)
    (simp append_assoc)

pub pieces-tokens : (f : Forest) (more : List Piece) →
    all_tokens (pieces_of f more) ≡ tokens f ++ all_tokens more
pieces-tokens Empty more = refl
pieces-tokens (Text bytes rest) more = simp (pieces-tokens rest more, append_assoc)
pieces-tokens (Void name x rest) more = rw (pieces-tokens rest more) refl
pieces-tokens (Element name x inner rest) more =
    rw (pieces-tokens inner (Closing name ∷ pieces_of rest more), pieces-tokens rest more)
    (simp append_assoc)

-- no text follows a text
pub alone : (f : Forest) (more : List Piece) → not (begins_with_text f) ≡ true →
    not (begins_with_words more) ≡ true →
    not (begins_with_words (pieces_of f more)) ≡ true
alone f more h k = grind arith

-- a forest of the grammar's tables has such texts, names and attributes, and sound pieces
pub forest-plain : (f : Forest) → is_forest f ≡ true → is_plain_forest f ≡ true
forest-plain Empty h = refl
forest-plain (Text bytes rest) h = let later = forest-plain rest in grind (arith, later, h)
forest-plain (Void name x rest) h =
    let p = and_parts (is_tag void_tags name x) (is_forest rest) h in
    let plain = void-plain name x p.0 in
    and_from _ _ plain.0 (and_from _ _ plain.1 (forest-plain rest p.1))
forest-plain (Element name x inner rest) h =
    let p = and_parts _ (is_forest rest) h in
    let q = and_parts (is_tag elements name x) (is_forest inner) p.0 in
    let plain = element-plain name x q.0 in
    let within = forest-plain inner q.1 in
    let later = forest-plain rest p.1 in grind (arith, plain.0, plain.1, within, later)

pub plain-sound : (f : Forest) (more : List Piece) → is_plain_forest f ≡ true →
    not (begins_with_words more) ≡ true →
    are_sound more ≡ true → are_sound (pieces_of f more) ≡ true
plain-sound Empty more h n s = s
plain-sound (Text bytes rest) more h n s = grind (arith, plain-sound rest more)
plain-sound (Void name x rest) more h n s = grind (arith, plain-sound rest more)
plain-sound (Element name x inner rest) more h n s =
    let p = and3 (is_tag_name name) (are_plain x) _ h in
    let q = and_parts (is_plain_forest inner) (is_plain_forest rest) p.2 in
    and_from _ _ p.0 (and_from _ _ p.1 (plain-sound inner (Closing name ∷ pieces_of rest more) q.0
    refl (and_from _ _ p.0 (plain-sound rest more q.1 n s))))

-- what a forest is written as, and what its pieces are written as, is one text
pub whole-written : (f : Forest) → all_written (pieces_of f []) ≡ written f
whole-written f = pieces-written f [] ∙ append-nil (written f)

-- ---- a listed tag is listed beside

filter-all : (p keep : TokenAttribute → Bool) (x : List TokenAttribute) → list_all p x ≡ true →
    list_all p (filter keep x) ≡ true
filter-all p keep [] h = refl
filter-all p keep (a ∷ x) h = let later = filter-all p keep x in grind (arith, later, h)

tag-filter : (rules : List (List ℕ × List (List ℕ))) (name : List ℕ) (keep : TokenAttribute → Bool)
    (x : List TokenAttribute) → is_tag_of rules name x ≡ true →
    is_tag_of rules name (filter keep x) ≡ true
tag-filter [] name keep x h = h
tag-filter (rule ∷ rules) name keep x h = grind (arith, filter-all, tag-filter rules name keep x)

beside : (t : Token) → is_listed t ≡ true → is_listed_beside t ≡ true
beside (StartTag name x flag) h = tag-filter _ name (λ a. not (is_addition name a)) x h
beside t h = h

-- a test that each token of a forest passes, and the end of file
forest-passes : (p : Token → Bool) (f : Forest) → p EndOfFile ≡ true →
    list_all p (tokens f) ≡ true →
    list_all p (all_tokens (pieces_of f [])) ≡ true
forest-passes p f e h = grind (arith, pieces-tokens, all-append)

pub written-safe : (text : List ℕ) → HasOneReadingWith is_safe_link text →
    HasOneReadingWith is_safe_image text →
    IsWritten text
written-safe text links images =
    let f = links.forest in
    let h = links.reading.in_grammar in
    record {
      pieces = pieces_of f [];
      sound = plain-sound f [] (forest-plain f h) refl refl;
      written_so = whole-written f ∙ links.reading.written_so;
      listed = forest-passes is_listed_beside f refl
          (all-weaker is_listed is_listed_beside beside (tokens f) (forest-listed f h));
      safe_links = grind (arith, forest-passes, all-tokens, links-pass);
      safe_images = grind (arith, forest-passes, all-tokens, images-pass);
    }
