-- A text whose tags may have more attributes than those of a safe text, and the tree that is built
-- from it.
use Rattle.std.specs.Prelude.{◌≡◌, ℕ, Bool, true, false, not, IsTrue, ◌&&◌, List, [], ◌∷◌, ◌++◌}
use Rattle.std.specs.Prelude.{Some}
use Rattle.md_base.specs.Identifier.{is_nonempty}
use Rattle.md_text.specs.Bytes.{is_one_of}
use Rattle.md_text.specs.References.{is_escaped}
use Rattle.md_text.specs.Html.{Forest, Empty, Text, Void, Element, begins_with_text, written}
use Rattle.md_safe.specs.Token.{EndOfFile}
use Rattle.md_safe.specs.Tokenizer.{IsTokenized}
use Rattle.md_safe.specs.Tokens.{tokens}
use Rattle.md_safe.specs.PageTokens.{page_tokens}
use Rattle.md_safe.specs.Contents.{Flow, is_contained}
use Rattle.md_safe.specs.Node.{Open, Entry, Mode}
use Rattle.md_safe.specs.Built.{IsPlace, Builds}
use Rattle.md_safe.specs.Page.{document_of, page_document}
use Rattle.md_page.specs.Pieces.{is_tag_name, are_plain, void_names}

-- no text is empty or followed by a text; texts and values are escaped; no tag has two attributes
-- of one name
abbrev pub is_plain_forest : Forest → Bool
is_plain_forest Empty = true
is_plain_forest (Text bytes rest) = is_nonempty bytes
    && (is_escaped bytes && (not (begins_with_text rest) && is_plain_forest rest))
is_plain_forest (Void name attributes rest) =
    is_one_of void_names name && (are_plain attributes && is_plain_forest rest)
is_plain_forest (Element name attributes inner rest) =
    is_tag_name name && (are_plain attributes && (is_plain_forest inner && is_plain_forest rest))

-- a text is written as a forest that fulfils the content model, with no link in a link; the
-- tokenizer emits the forest's tokens, and from these tree construction builds that forest,
-- wherever flow content may be inserted
pub record IsBuiltAsWritten (text : List ℕ) : Type 0 where
  pub forest : Forest
  pub plain : IsTrue (is_plain_forest forest)
  pub written_so : written forest ≡ text
  pub contained : IsTrue (is_contained false Flow forest)
  pub tokenized : IsTokenized text (tokens forest ++ (EndOfFile ∷ []))
  pub builds :
      (mode : Mode) (node : Open) (others : List Open) (active : List Entry) (created : ℕ) →
      IsPlace mode node others active created → Builds mode node others active created forest

-- a body's text is written as a forest; the tokenizer emits for the page's text the tokens from
-- which the document with that forest is built
pub record IsBuiltPageAround (title body text : List ℕ) : Type 0 where
  pub inside : Forest
  pub written_so : written inside ≡ body
  pub tokenized : IsTokenized text (page_tokens title inside)
  pub built : document_of (page_tokens title inside) ≡ Some (page_document title inside)
