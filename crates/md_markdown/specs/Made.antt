-- The text of a Markdown document.
use Rattle.std.specs.Prelude.{◌≡◌, ◌⊎◌, ◌++◌, ◌∷◌, [], ℕ, Bool, IsTrue, List, option_map}
use Rattle.std.specs.Prelude.{string_bytes}
use Rattle.md_base.specs.Tree.{Forest}
use Rattle.md_text.specs.declared.options.CompileOptions.{CompileOptions}
use Rattle.md_tree.specs.Grammar.{IsGrammatical}
use Rattle.md_meaning.specs.Meaning.{meaning}
use Rattle.md_references.specs.Names.{are_html}
use Rattle.md_writer.specs.Added.{AreAdded}
use Rattle.md_blocks.specs.declared.options.MarkdownOptions.{MarkdownOptions}
use Rattle.md_markdown.specs.Chosen.{AreChosenFor}

-- the text is the meaning of a document of the grammar over these bytes, with HTML's names of
-- character references, under the compiler's options for those of Markdown
pub record IsMadeOver (markdown : MarkdownOptions) (bytes text : List ℕ) : Type 0 where
  pub document : Forest
  pub names : List (List ℕ × List ℕ)
  pub options : CompileOptions
  pub chosen : AreChosenFor markdown options
  pub html : IsTrue (are_html names)
  pub grammatical : IsGrammatical bytes names document
  pub means : text ≡ meaning options names bytes document

-- nothing or a line feed
abbrev pub IsEnding : List ℕ → Type 0
IsEnding ending = (ending ≡ []) ⊎ (ending ≡ 10 ∷ [])

-- what may be appended to a document: with a base, URLs resolved against it; then perhaps a line
-- feed
pub record MayBeAdded (markdown : MarkdownOptions) (added : List ℕ) : Type 0 where
  pub urls : List ℕ
  pub ending : List ℕ
  pub resolved : AreAdded (option_map string_bytes markdown.base) urls
  pub ends : IsEnding ending
  pub joined : added ≡ urls ++ ending

-- the text is that of a document over a document's bytes and what is appended to them
pub record IsMadeOf (markdown : MarkdownOptions) (document text : List ℕ) : Type 0 where
  pub added : List ℕ
  pub may : MayBeAdded markdown added
  pub over : IsMadeOver markdown (document ++ added) text
