-- From the promises about a text with ids to those about C's result.
use Rattle.std.proofs.Common.{◌≡◌, ℕ, ◌≤◌, List, [], ◌∷◌, ◌++◌, length, take}
use Rattle.std.proofs.Common.{Option, Some, sym, subst, map, true, false}
use Rattle.std.specs.Prelude.{IsTrue}
use Rattle.md_text.specs.Encode.{encoded}
use Rattle.md_text.specs.Ids.{are_distinct}
use Rattle.md_safe.specs.Token.{Token, EndOfFile}
use Rattle.md_safe.specs.Tokens.{tokens}
use Rattle.md_safe.specs.Tokenizer.{IsTokenized}
use Rattle.md_page.specs.Added.{headings_of}
use Rattle.md_page.specs.Attributed.{IsAttributed}
use Rattle.md_page.specs.Built.{IsBuiltAsWritten}
use Rattle.md_page.specs.GivenIds.{is_among, with_given_ids, written_id}
use Rattle.md_page.specs.Ids.{ids_among}
use Rattle.md_page.specs.Pieces.{IsWritten}
use Rattle.md_page.proofs.Forests.{read-built}
use Rattle.md_page.proofs.Rules.{attributed}
use Rattle.md_abi.specs.Options.{text_of}
use Rattle.md_abi.specs.Attributes.{with_rel, listing}
use Rattle.md_abi.proofs.AttributedLemmas.{after, asked_is}
use Rattle.md_markdown_abi.specs.Text.{IsPlainOf}
use Rattle.md_markdown_abi.specs.Slugged.{IsSluggedText, IsSluggedAfter, id_listing}
use Rattle.md_markdown_abi.specs.declared.option.CMarkdownOptions.{CMarkdownOptions}

-- ---- lists after a text
pub listed-slugs : (text whole : List ℕ) (start : ℕ) (ids : List (List ℕ)) (x : List Token) →
    whole ≡ text ++ (listing (headings_of x) ++ id_listing ids) → start ≡ length text →
    length ids ≡ length (headings_of x) → IsTokenized text (with_given_ids ids x) →
    IsTrue (are_distinct (map written_id ids)) →
    ((id : List ℕ) → IsTrue (is_among id (ids_among x)) →
    is_among (encoded true id) (map written_id ids) ≡ false) →
    (IsTrue (are_distinct (ids_among x)) →
    IsTrue (are_distinct (ids_among (with_given_ids ids x)))) →
    IsWritten text → IsSluggedAfter x start whole
listed-slugs text whole start ids x is at count tokenized differ free distinct written =
    let parts = after text (listing (headings_of x) ++ id_listing ids) whole start is at in
    record {
      ids = ids;
      within = parts.2;
      count = count;
      added = subst (λ t. IsTokenized t (with_given_ids ids x)) (sym parts.0) tokenized;
      attributed = subst IsAttributed (sym parts.0) (attributed text written);
      written = subst IsWritten (sym parts.0) written;
      headings = parts.1;
      differ = differ;
      free = free;
      distinct = distinct;
    }

-- what is built of a text is built of the bytes before the lists
pub built-slugs : (text list whole : List ℕ) (start : ℕ) → whole ≡ text ++ list →
    start ≡ length text → IsBuiltAsWritten text → IsBuiltAsWritten (take start whole)
built-slugs text list whole start is at built =
    subst IsBuiltAsWritten (sym (after text list whole start is at).0) built

-- ---- of a document
pub made_slugged : (bytes : List ℕ) (given : CMarkdownOptions) (rel : Option (List ℕ))
    (plain whole : List ℕ) (start : ℕ) → IsPlainOf bytes given plain → text_of given.rel ≡ Some
    rel →
    ((x : List Token) → IsTokenized plain x → IsSluggedAfter (with_rel rel x) start whole) →
    (IsBuiltAsWritten plain → IsBuiltAsWritten (take start whole)) →
    start ≤ given.max_output → IsSluggedText bytes given start whole
made_slugged bytes given rel plain whole start made rel_read slugged built fits =
    let read = made.safe.as_read in
    let emitted : List Token = tokens read.forest ++ (EndOfFile ∷ []) in
    record {
      plain = plain;
      tokens = emitted;
      made = made;
      tokenized = read.tokenized;
      slugged = subst (λ r. IsSluggedAfter (with_rel r emitted) start whole)
          (sym (asked_is given.rel rel rel_read)) (slugged emitted read.tokenized);
      built = built (read-built plain made.tree);
      fits = fits;
    }
