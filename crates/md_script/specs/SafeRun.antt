-- The result of `run_safe`: a safe text, or the reason why there is none.
use Rattle.std.specs.Prelude.{◌≡◌, ℕ, true, false, List, codes}
use Rattle.md_base.specs.declared.event.Event.{Event}
use Rattle.md_base.specs.Tree.{Forest, flatten}
use Rattle.md_tree.specs.declared.rule.Rule.{Rule}
use Rattle.md_tree.specs.declared.rule.CompileError.TheVariants as refusal
use Rattle.md_tree.specs.Grammar.{IsChecked}
use Rattle.md_tree.specs.Refusal.{IsRefusal}
use Rattle.md_meaning.specs.Meaning.{meaning}
use Rattle.md_text.specs.declared.options.CompileOptions.{CompileOptions}
use Rattle.md_text.specs.Ids.{HasDistinctIds}
use Rattle.md_safe.specs.Tokenized.{IsSafelyTokenized}
use Rattle.md_safe.specs.Options.{KeepsImages}
use Rattle.md_safe.specs.Contents.{IsContained}
use Rattle.md_safe.specs.Links.{has_nested_link}
use Rattle.md_safe.specs.Built.{IsBuiltAsRead}
use Rattle.md_html.specs.declared.safe_html.SafeError.{SafeError}
use Rattle.md_html.specs.declared.safe_html.SafeError.TheVariants as safe
use Rattle.md_script.specs.declared.error.SafeRunError.{SafeRunError}
use Rattle.md_script.specs.declared.error.SafeRunError.TheVariants.{Options, Run}
use Rattle.md_script.specs.declared.error.RunError.TheVariants as error
use Rattle.md_script.specs.Error.{run_error_of, message_of}
use Rattle.md_script.specs.Run.{reference_names, document_of, ExplainsEvents, ExplainsRun}
use Rattle.md_script.specs.Script.{StandsFor}

-- the message for an error
abbrev pub safe_message_of : SafeRunError → List ℕ
safe_message_of Options = codes "unsafe options"
safe_message_of (Run error) = message_of error

-- the options are safe, the events match the grammar over the bytes, and the text is the meaning of
-- their document; the HTML Standard's tokenizer emits its reading, with only permitted schemes in
-- links and images; the reading fulfils the content model; if no link contains a link, tree
-- construction builds it; if ids are by number, no two ids are equal
pub record IsSafelyCompiled (events : List Event) (bytes : List ℕ) (options : CompileOptions)
    (text : List ℕ) : Type 0 where
  pub safe : KeepsImages options
  pub grammatical : IsChecked (document_of events bytes)
  pub means : (document : Forest) → flatten document ≡ events →
      text ≡ meaning options reference_names bytes document
  pub tokens : IsSafelyTokenized text
  pub contained : IsContained text
  pub tree : (document : Forest) → flatten document ≡ events →
      has_nested_link false document ≡ false →
      IsBuiltAsRead text
  pub distinct_ids : options.gfm_footnote_number_ids ≡ true → HasDistinctIds text

-- why events have no safe text: their options aren't safe, or they are and the events have no text
abbrev pub ExplainsSafeEvents : List Event → List ℕ → CompileOptions → SafeRunError → Type 0
ExplainsSafeEvents events bytes options Options = KeepsImages options → ⊥
ExplainsSafeEvents events bytes options (Run error) =
    KeepsImages options × ExplainsEvents events bytes error

-- the text is that of the input's content, whose options are safe
pub record IsSafeTextOf (input text : List ℕ) : Type 0 where
  pub events : List Event
  pub bytes : List ℕ
  pub options : CompileOptions
  pub stands : StandsFor input events bytes options
  pub compiled : IsSafelyCompiled events bytes options text

-- the options of the input's content aren't safe
pub record IsUnsafe (input : List ℕ) : Type 0 where
  pub events : List Event
  pub bytes : List ℕ
  pub options : CompileOptions
  pub stands : StandsFor input events bytes options
  pub unsafe : KeepsImages options → ⊥

-- an event of the input's content is refused, and its options are safe
pub record IsSafelyRefusedAt (input : List ℕ) (index : ℕ) (rule : Rule) : Type 0 where
  pub events : List Event
  pub bytes : List ℕ
  pub options : CompileOptions
  pub stands : StandsFor input events bytes options
  pub safe : KeepsImages options
  pub refused : IsRefusal (document_of events bytes) (refusal.Event index rule)

-- why a script has no safe text
abbrev pub ExplainsSafeRun : List ℕ → SafeRunError → Type 0
ExplainsSafeRun input Options = IsUnsafe input
ExplainsSafeRun input (Run error.Memory) = Unit {0}
ExplainsSafeRun input (Run (error.Line number)) = ExplainsRun input (error.Line number)
ExplainsSafeRun input (Run (error.Event index rule)) = IsSafelyRefusedAt input index rule

-- a script's error for a compiler's error
abbrev pub safe_run_error_of : SafeError → SafeRunError
safe_run_error_of safe.Options = Options
safe_run_error_of (safe.Compile cause) = Run (run_error_of cause)
