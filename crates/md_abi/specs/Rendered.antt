-- The promises about a text in terms of C's input, and why there is none.
use Rattle.std.specs.Prelude.{◌≡◌, ℕ, false, List}
use Rattle.md_base.specs.declared.event.Event.{Event}
use Rattle.md_tree.specs.declared.rule.Rule.{Rule}
use Rattle.md_tree.specs.declared.rule.CompileError.TheVariants as refusal
use Rattle.md_base.specs.Tree.{Forest, flatten}
use Rattle.md_tree.specs.Grammar.{IsGrammatical}
use Rattle.md_tree.specs.Refusal.{IsRefusal}
use Rattle.md_text.specs.declared.options.CompileOptions.{CompileOptions}
use Rattle.md_meaning.specs.Meaning.{meaning}
use Rattle.md_text.specs.Html.{any_attribute, HasOneReadingWith, IsPrinted}
use Rattle.md_text.specs.Safe.{is_safe_link, is_safe_image}
use Rattle.md_text.specs.Ids.{HasDistinctIds}
use Rattle.md_safe.specs.SafeTokens.{has_safe_links, has_safe_images}
use Rattle.md_safe.specs.Tokenized.{HasTokensWith, IsTokenizedAsRead}
use Rattle.md_safe.specs.Contents.{IsContained}
use Rattle.md_safe.specs.Links.{has_nested_link}
use Rattle.md_safe.specs.Built.{IsBuiltAsRead}
use Rattle.md_script.specs.Run.{IsRefusedAt}
use Rattle.md_abi.specs.Numbers.{rule_number}
use Rattle.md_abi.specs.Standing.{StandFor}
use Rattle.md_abi.specs.Events.{event_of}
use Rattle.md_abi.specs.References.{reference_of}
use Rattle.md_abi.specs.Options.{HasOptions, KeepsGrammar, KeepsLinks, KeepsImages, KeepsIds}
use Rattle.md_abi.specs.declared.event.CEvent.{CEvent}
use Rattle.md_abi.specs.declared.reference.CReference.{CReference}
use Rattle.md_abi.specs.declared.option.COptions.{COptions}

-- the text is the meaning of a document of the grammar with the events, options and names of the
-- input; if the options are safe, it has one reading, of tags that the compiler writes, whose links
-- and images all have permitted protocols, and which fulfils the content model, and the HTML
-- Standard's tokenizer emits that reading, with only permitted schemes in links and images; if no
-- link contains a link, tree construction builds it; if ids are by number, no two ids are equal
pub record IsRendered (events : List CEvent) (bytes : List ℕ) (options : COptions)
    (names : List CReference) (text : List ℕ) : Type 0 where
  pub document : Forest
  pub given : CompileOptions
  pub table : List (List ℕ × List ℕ)
  pub events_stand : StandFor event_of events (flatten document)
  pub options_stand : HasOptions options given
  pub names_stand : StandFor reference_of names table
  pub grammatical : IsGrammatical bytes table document
  pub means : text ≡ meaning given table bytes document
  pub one_reading : KeepsGrammar options → HasOneReadingWith any_attribute text
  pub printed : KeepsGrammar options → IsPrinted text
  pub safe_links : KeepsLinks options → HasOneReadingWith is_safe_link text
  pub safe_images : KeepsImages options → HasOneReadingWith is_safe_image text
  pub contained : KeepsGrammar options → IsContained text
  pub tree : has_nested_link false document ≡ false → KeepsGrammar options → IsBuiltAsRead text
  pub tokenized : KeepsGrammar options → IsTokenizedAsRead text
  pub safe_link_tokens : KeepsLinks options → HasTokensWith has_safe_links text
  pub safe_image_tokens : KeepsImages options → HasTokensWith has_safe_images text
  pub distinct_ids : KeepsIds options → HasDistinctIds text

-- the input encodes events that are refused at this index by this rule
pub record IsRefusedFor (events : List CEvent) (bytes : List ℕ)
    (names : List CReference) (index : ℕ)
    (broken : Rule) : Type 0 where
  pub read : List Event
  pub table : List (List ℕ × List ℕ)
  pub events_stand : StandFor event_of events read
  pub names_stand : StandFor reference_of names table
  pub refused : IsRefusal (record { events = read; bytes = bytes; names = table })
      (refusal.Event index broken)

-- the same by a rule's number
abbrev pub IsRefusedBy : List CEvent → List ℕ → List CReference → ℕ → ℕ → Type 0
IsRefusedBy events bytes names index number =
    (broken : Rule) × (number ≡ rule_number broken) × IsRefusedFor events bytes names index broken

-- the same for a script
abbrev pub IsRefusedIn : List ℕ → ℕ → ℕ → Type 0
IsRefusedIn script index number =
    (broken : Rule) × (number ≡ rule_number broken) × IsRefusedAt script index broken
