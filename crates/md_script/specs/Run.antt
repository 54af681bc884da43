-- The result of `run`: that of the compiler for the content of a script.
use Rattle.std.specs.Prelude.{◌≡◌, ℕ, false, List, [], ◌∷◌, codes}
use Rattle.md_base.specs.declared.event.Event.{Event}
use Rattle.md_tree.specs.declared.rule.Rule.{Rule}
use Rattle.md_tree.specs.declared.rule.CompileError.TheVariants as refusal
use Rattle.md_base.specs.Tree.{Forest, flatten}
use Rattle.md_tree.specs.Grammar.{Handed, IsChecked}
use Rattle.md_tree.specs.Refusal.{IsRefusal}
use Rattle.md_text.specs.declared.options.CompileOptions.{CompileOptions}
use Rattle.md_meaning.specs.Meaning.{meaning}
use Rattle.md_safe.specs.Options.{KeepsGrammar, KeepsLinks, KeepsImages, KeepsIds}
use Rattle.md_text.specs.Html.{any_attribute, HasOneReadingWith}
use Rattle.md_text.specs.Safe.{is_safe_link, is_safe_image}
use Rattle.md_text.specs.Ids.{HasDistinctIds}
use Rattle.md_safe.specs.SafeTokens.{has_safe_links, has_safe_images}
use Rattle.md_safe.specs.Tokenized.{HasTokensWith, IsTokenizedAsRead}
use Rattle.md_safe.specs.Contents.{IsContained}
use Rattle.md_safe.specs.Links.{has_nested_link}
use Rattle.md_safe.specs.Built.{IsBuiltAsRead}
use Rattle.md_script.specs.Script.{IsReadable, IsFirstUnreadable, StandsFor}
use Rattle.md_script.specs.declared.error.RunError.{RunError}
use Rattle.md_script.specs.declared.error.RunError.TheVariants as error

-- the names of character references, each with its text
abbrev pub reference_names : List (List ℕ × List ℕ)
reference_names =
    (codes "amp", codes "&") ∷ (codes "lt", codes "<") ∷ (codes "gt", codes ">")
    ∷ (codes "quot", 34 ∷ []) ∷ (codes "apos", codes "'")
    ∷ (codes "colon", codes ":") ∷ (codes "sol", codes "/") ∷ (codes "num", codes "#")
    ∷ (codes "quest", codes "?") ∷ []

-- events over bytes, as the input of a check
abbrev pub document_of : List Event → List ℕ → Handed
document_of events bytes = record { events = events; bytes = bytes; names = reference_names }

-- the events match the grammar over the bytes, and the text is the meaning of their document; if
-- the options are safe, it has one reading, whose links and images all have permitted protocols,
-- and which fulfils the content model, and the HTML Standard's tokenizer emits that reading, with
-- only permitted schemes in links and images; if no link contains a link, tree construction builds
-- it; if ids are by number, no two ids are equal
pub record IsCompiled (events : List Event) (bytes : List ℕ) (options : CompileOptions)
    (text : List ℕ) : Type 0 where
  pub grammatical : IsChecked (document_of events bytes)
  pub means : (document : Forest) → flatten document ≡ events →
      text ≡ meaning options reference_names bytes document
  pub one_reading : KeepsGrammar options → HasOneReadingWith any_attribute text
  pub safe_links : KeepsLinks options → HasOneReadingWith is_safe_link text
  pub safe_images : KeepsImages options → HasOneReadingWith is_safe_image text
  pub contained : KeepsGrammar options → IsContained text
  pub tree : (document : Forest) → flatten document ≡ events →
      has_nested_link false document ≡ false →
      KeepsGrammar options → IsBuiltAsRead text
  pub tokenized : KeepsGrammar options → IsTokenizedAsRead text
  pub safe_link_tokens : KeepsLinks options → HasTokensWith has_safe_links text
  pub safe_image_tokens : KeepsImages options → HasTokensWith has_safe_images text
  pub distinct_ids : KeepsIds options → HasDistinctIds text

-- why events have no text
abbrev pub ExplainsEvents : List Event → List ℕ → RunError → Type 0
ExplainsEvents events bytes error.Memory = Unit {0}
ExplainsEvents events bytes (error.Line number) = ⊥
ExplainsEvents events bytes (error.Event index rule) =
    IsRefusal (document_of events bytes) (refusal.Event index rule)

-- the text is that of the input's content
pub record IsTextOf (input text : List ℕ) : Type 0 where
  pub events : List Event
  pub bytes : List ℕ
  pub options : CompileOptions
  pub stands : StandsFor input events bytes options
  pub compiled : IsCompiled events bytes options text

-- an event of the input's content is refused
pub record IsRefusedAt (input : List ℕ) (index : ℕ) (rule : Rule) : Type 0 where
  pub events : List Event
  pub bytes : List ℕ
  pub options : CompileOptions
  pub stands : StandsFor input events bytes options
  pub refused : IsRefusal (document_of events bytes) (refusal.Event index rule)

-- why a script has no text: a line only if the input is invalid, an event only if it is valid
abbrev pub ExplainsRun : List ℕ → RunError → Type 0
ExplainsRun input error.Memory = Unit {0}
ExplainsRun input (error.Line number) = (¬ IsReadable input) × IsFirstUnreadable input number
ExplainsRun input (error.Event index rule) = IsRefusedAt input index rule
