-- The text of a Markdown document with the HTML that authors write.
use Rattle.std.specs.Prelude.{◌≡◌, ◌++◌, ℕ, Bool, true, All, IsTrue, List, length}
use Rattle.std.specs.List.{concat}
use Rattle.md_base.specs.Tree.{Forest, flatten}
use Rattle.md_base.specs.declared.event.Event.{Event}
use Rattle.md_text.specs.Ids.{HasDistinctIds}
use Rattle.md_text.specs.Url.{link_protocols, image_protocols}
use Rattle.md_text.specs.declared.options.CompileOptions.{CompileOptions}
use Rattle.md_tree.specs.Grammar.{IsGrammatical}
use Rattle.md_meaning.specs.Meaning.{meaning}
use Rattle.md_safe.specs.Built.{IsBuiltAsRead}
use Rattle.md_safe.specs.Contents.{IsContained}
use Rattle.md_safe.specs.Tokenized.{IsSafelyTokenized}
use Rattle.md_depth.specs.Levels.{NestsWithin}
use Rattle.md_references.specs.Names.{are_html}
use Rattle.md_reader.specs.Pieces.{IsAuthorsPiece}
use Rattle.md_reader.specs.Safe.{IsSafeHtml, max_depth}
use Rattle.md_kept.specs.Pieces.{html_texts}
use Rattle.md_blocks.specs.declared.options.MarkdownOptions.{MarkdownOptions}
use Rattle.md_markdown.specs.Chosen.{AreChosenFor}
use Rattle.md_markdown.specs.Made.{MayBeAdded}

-- the text is the meaning, with HTML as it stands, of a document of the grammar over a document's
-- bytes and what is appended to them; the HTML in it is the pieces that are appended last, each of
-- which authors may write
pub record IsKeptOf (markdown : MarkdownOptions) (document text : List ℕ) : Type 0 where
  pub added : List ℕ
  pub may : MayBeAdded markdown added
  pub pieces : List (List ℕ)
  pub each : All IsAuthorsPiece pieces
  pub bytes : List ℕ
  pub joined : bytes ≡ (document ++ added) ++ concat pieces
  pub tree : Forest
  pub names : List (List ℕ × List ℕ)
  pub options : CompileOptions
  pub chosen : AreChosenFor markdown options
  pub html : IsTrue (are_html names)
  pub grammatical : IsGrammatical bytes names tree
  pub shown : html_texts bytes (length (document ++ added)) (flatten tree) ≡ pieces
  pub means : text ≡ meaning (record options { allow_dangerous_html = true }) names bytes tree

-- the events are over a document's bytes and what is appended to them; the HTML in them is the
-- pieces that are appended last, each of which authors may write. No public contract cites this.
pub record HavePieces (markdown : MarkdownOptions) (document bytes : List ℕ) (events : List Event)
    : Type 0 where
  pub added : List ℕ
  pub may : MayBeAdded markdown added
  pub pieces : List (List ℕ)
  pub each : All IsAuthorsPiece pieces
  pub joined : bytes ≡ (document ++ added) ++ concat pieces
  pub shown : html_texts bytes (length (document ++ added)) events ≡ pieces

-- the compiler's options for those of Markdown, with HTML as it stands. No public contract cites
-- this.
pub record ArePiecesAllowed (markdown : MarkdownOptions) (options : CompileOptions) : Type 0 where
  pub own : CompileOptions
  pub chosen : AreChosenFor markdown own
  pub allowed : options ≡ record own { allow_dangerous_html = true }

-- what is promised of a text of which no type says it; the last if ids are by number. No public
-- contract cites this.
pub record IsSafeText (number_ids : Bool) (text : List ℕ) : Type 0 where
  pub safe : IsSafeHtml link_protocols image_protocols text
  pub tokens : IsSafelyTokenized text
  pub contained : IsContained text
  pub tree : IsBuiltAsRead text
  pub nesting : NestsWithin max_depth text
  pub distinct_ids : number_ids ≡ true → HasDistinctIds text
