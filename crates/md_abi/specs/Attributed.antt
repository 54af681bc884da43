-- The promises about a text with attributes, in terms of C's input.
use Rattle.std.specs.Prelude.{◌≡◌, ℕ, ◌≤◌, Bool, true, IsTrue, List, length, take, drop, Option}
use Rattle.std.specs.Option.{option_map_or}
use Rattle.md_text.specs.Ids.{are_distinct}
use Rattle.md_safe.specs.Token.{Token}
use Rattle.md_safe.specs.Tokenizer.{IsTokenized}
use Rattle.md_page.specs.Added.{shown}
use Rattle.md_page.specs.Attributed.{IsAttributed}
use Rattle.md_page.specs.Ids.{ids_among, none_begins}
use Rattle.md_page.specs.Pieces.{IsWritten}
use Rattle.md_page.specs.Built.{IsBuiltAsWritten}
use Rattle.md_safe.specs.Built.{IsBuiltAsRead}
use Rattle.md_abi.specs.Options.{KeepsImages}
use Rattle.md_abi.specs.Rendered.{IsRendered}
use Rattle.md_abi.specs.Attributes.{asked, with_rel, with_ids, headings_with, listing}
use Rattle.md_abi.specs.declared.event.CEvent.{CEvent}
use Rattle.md_abi.specs.declared.reference.CReference.{CReference}
use Rattle.md_abi.specs.declared.option.COptions.{COptions}
use Rattle.md_abi.specs.declared.attributes.CAttributes.{CAttributes}

-- none of some ids begins with the prefix of the ids of headings
abbrev pub none_begins_with : Option (List ℕ) → List (List ℕ) → Bool
none_begins_with prefix ids = option_map_or (λ text. none_begins (shown text) ids) prefix true

-- the bytes before the index are tokenized as these tokens with ids on their headings, if a prefix
-- is requested, and fulfil the promises about such a text; they are written as whole tags and
-- texts, so that no tag is cut off at their end; the bytes after it are the list of these headings;
-- if no two ids among the tokens are equal, and none begins with the prefix, no two of the text are
-- equal
pub record IsListedAfter (prefix : Option (List ℕ)) (tokens : List Token) (start : ℕ)
    (whole : List ℕ) : Type 0 where
  pub within : start ≤ length whole
  pub added : IsTokenized (take start whole) (with_ids prefix tokens)
  pub attributed : IsAttributed (take start whole)
  pub written : IsWritten (take start whole)
  pub headings : drop start whole ≡ listing (headings_with prefix tokens)
  pub distinct : IsTrue (are_distinct (ids_among tokens)) →
      IsTrue (none_begins_with prefix (ids_among tokens)) →
      IsTrue (are_distinct (ids_among (with_ids prefix tokens)))

-- the input, with safe options, has a text with all promises about one without attributes; with the
-- requested attributes its tokens are those of the bytes before the index, which are built as they
-- are written if the text is built as it is read; the list of the headings that got an id follows
pub record IsAttributedText (events : List CEvent) (bytes : List ℕ) (options : COptions)
    (names : List CReference) (attributes : CAttributes) (start : ℕ) (whole : List ℕ) : Type 0 where
  pub plain : List ℕ
  pub tokens : List Token
  pub safe : KeepsImages options
  pub rendered : IsRendered events bytes options names plain
  pub tokenized : IsTokenized plain tokens
  pub listed : IsListedAfter (asked attributes.heading_ids)
      (with_rel (asked attributes.rel) tokens) start whole
  pub tree : IsBuiltAsRead plain → IsBuiltAsWritten (take start whole)
