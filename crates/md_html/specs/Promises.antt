-- What the calls promise of a text, and of a `SafeHtml` beside what its type says.
use Rattle.std.specs.Prelude.{◌≡◌, ℕ, true, false, List}
use Rattle.md_base.specs.Tree.{Forest, flatten}
use Rattle.md_text.specs.Html.{any_attribute, HasOneReadingWith, IsPrinted}
use Rattle.md_text.specs.Ids.{HasDistinctIds}
use Rattle.md_text.specs.Safe.{is_safe_link, is_safe_image}
use Rattle.md_text.specs.declared.options.CompileOptions.{CompileOptions}
use Rattle.md_tree.specs.Grammar.{Handed, IsChecked}
use Rattle.md_meaning.specs.Meaning.{meaning}
use Rattle.md_safe.specs.Built.{IsBuiltAsRead}
use Rattle.md_safe.specs.Contents.{IsContained}
use Rattle.md_safe.specs.Links.{has_nested_link}
use Rattle.md_safe.specs.Options.{KeepsGrammar, KeepsLinks, KeepsImages, KeepsIds}
use Rattle.md_safe.specs.SafeTokens.{has_safe_links, has_safe_images}
use Rattle.md_safe.specs.Tokenized.{HasTokensWith, IsTokenizedAsRead, IsSafelyTokenized}

-- what each text promises: the clauses of `compile`, word for word
pub record Promises (options : CompileOptions) (given : Handed) (text : List ℕ) : Type 0 where
  pub grammatical : IsChecked given
  pub meaning : (document : Forest) → flatten document ≡ given.events →
      text ≡ meaning options given.names given.bytes document
  pub one_reading : KeepsGrammar options → HasOneReadingWith any_attribute text
  pub printed : KeepsGrammar options → IsPrinted text
  pub safe_links : KeepsLinks options → HasOneReadingWith is_safe_link text
  pub safe_images : KeepsImages options → HasOneReadingWith is_safe_image text
  pub contained : KeepsGrammar options → IsContained text
  pub tree : (document : Forest) → flatten document ≡ given.events →
      has_nested_link false document ≡ false → KeepsGrammar options → IsBuiltAsRead text
  pub tokenized : KeepsGrammar options → IsTokenizedAsRead text
  pub safe_link_tokens : KeepsLinks options → HasTokensWith has_safe_links text
  pub safe_image_tokens : KeepsImages options → HasTokensWith has_safe_images text
  pub distinct_ids : KeepsIds options → HasDistinctIds text

-- what the text of a `SafeHtml` promises: its options are safe
pub record SafePromises (options : CompileOptions) (given : Handed) (text : List ℕ) : Type 0 where
  pub safe : KeepsImages options
  pub grammatical : IsChecked given
  pub meaning : (document : Forest) → flatten document ≡ given.events →
      text ≡ meaning options given.names given.bytes document
  pub tokens : IsSafelyTokenized text
  pub printed : IsPrinted text
  pub contained : IsContained text
  pub tree : (document : Forest) → flatten document ≡ given.events →
      has_nested_link false document ≡ false → IsBuiltAsRead text
  pub distinct_ids : options.gfm_footnote_number_ids ≡ true → HasDistinctIds text
