-- From the compiler's promises to those about a text in terms of C's input.
use Rattle.std.proofs.Common.{arith}
use Rattle.std.proofs.Common.{◌≡◌, ℕ, List, map, Some}
use Rattle.std.proofs.Common.{Result, Ok, Err, IfOk, IfErr, sym, ap, ◌∙◌, subst}
use Rattle.std.specs.Prelude.{IsErrAnd}
use Rattle.std.specs.Borrow.{Bor}
use Rattle.md_base.specs.Reference.{name_table}
use Rattle.md_base.specs.declared.event.Event.{Event}
use Rattle.md_tree.specs.Grammar.{Handed, handed}
use Rattle.md_tree.specs.Refusal.{IsRefusal}
use Rattle.md_tree.specs.declared.rule.CompileError.{CompileError}
use Rattle.md_tree.specs.declared.rule.CompileError.TheVariants as refusal
use Rattle.md_text.specs.declared.options.CompileOptions.{CompileOptions}
use Rattle.md_safe.specs.Options as safe
use Rattle.md_abi.specs.Standing.{StandFor}
use Rattle.md_abi.specs.Events.{event_of}
use Rattle.md_abi.specs.References.{reference_of}
use Rattle.md_abi.specs.Options.{HasOptions, KeepsGrammar, KeepsLinks}
use Rattle.md_abi.specs.Options.{KeepsImages, KeepsIds}
use Rattle.md_abi.specs.Rendered.{IsRendered}
use Rattle.md_html.specs.Promises.{Promises}
use Rattle.md_abi.specs.Failures.{failure_of, IsRefusalOf, Explains}
use Rattle.md_abi.specs.declared.event.CEvent.{CEvent}
use Rattle.md_abi.specs.declared.reference.CReference.{CReference}
use Rattle.md_abi.specs.declared.option.COptions.{COptions}
use Rattle.md_abi.specs.declared.failure.Failure.{Failure}

-- ---- safe options of C encode safe options

pub keeps_grammar : (given : COptions) (options : CompileOptions) → HasOptions given options →
    KeepsGrammar given →
    safe.KeepsGrammar options
keeps_grammar given options has keeps = grind arith

pub keeps_links : (given : COptions) (options : CompileOptions) →
    HasOptions given options → KeepsLinks given →
    safe.KeepsLinks options
keeps_links given options has keeps = grind arith

pub keeps_images : (given : COptions) (options : CompileOptions) →
    HasOptions given options → KeepsImages given →
    safe.KeepsImages options
keeps_images given options has keeps = grind arith

pub keeps_ids : (given : COptions) (options : CompileOptions) →
    HasOptions given options → KeepsIds given →
    safe.KeepsIds options
keeps_ids given options has keeps = grind arith

-- ---- the converted input, passed as slices

pub record IsRead (events : List CEvent) (options : COptions) (names : List CReference)
    (slice : List Event)
    (given : CompileOptions) (pairs : List (Bor (List ℕ) × Bor (List ℕ))) : Type 0 where
  pub events_stand : StandFor event_of events slice
  pub options_stand : HasOptions options given
  pub names_stand : StandFor reference_of names (name_table pairs)

pub read_as :
    (events : List CEvent) (options : COptions) (names : List CReference) (slice read : List Event)
    (given : CompileOptions) (pairs read_pairs : List (Bor (List ℕ) × Bor (List ℕ))) →
    slice ≡ read →
    pairs ≡ read_pairs → StandFor event_of events read → HasOptions options given →
    StandFor reference_of names (name_table read_pairs) →
    IsRead events options names slice given pairs
read_as events options names slice read given pairs read_pairs same same_pairs events_stand
    options_stand names_stand =
    grind arith

module _ (events : List CEvent) (bytes : List ℕ) (options : COptions) (names : List CReference)
    (slice : List Event)
    (given : CompileOptions) (pairs : List (Bor (List ℕ) × Bor (List ℕ)))
    (read : IsRead events options names slice given pairs) where
  unfoldable pub rendered : (text : List ℕ) → Promises given (handed slice bytes pairs) text →
      IsRendered events bytes options names text
  rendered text compiled = record {
    document = compiled.grammatical.0;
    given = given;
    table = name_table pairs;
    events_stand = read.events_stand ∙ ap (map Some) (sym compiled.grammatical.1.flattened);
    options_stand = read.options_stand;
    names_stand = read.names_stand;
    grammatical = compiled.grammatical.1.grammatical;
    means = compiled.meaning compiled.grammatical.0 compiled.grammatical.1.flattened;
    one_reading =
        λ keeps. compiled.one_reading (keeps_grammar options given read.options_stand keeps);
    printed = λ keeps. compiled.printed (keeps_grammar options given read.options_stand keeps);
    safe_links = λ keeps. compiled.safe_links (keeps_links options given read.options_stand keeps);
    safe_images =
        λ keeps. compiled.safe_images (keeps_images options given read.options_stand keeps);
    contained = λ keeps. compiled.contained (keeps_grammar options given read.options_stand keeps);
    tree = λ unnested keeps. compiled.tree compiled.grammatical.0 compiled.grammatical.1.flattened
        unnested (keeps_grammar options given read.options_stand keeps);
    tokenized = λ keeps. compiled.tokenized (keeps_grammar options given read.options_stand keeps);
    safe_link_tokens =
        λ keeps. compiled.safe_link_tokens (keeps_links options given read.options_stand keeps);
    safe_image_tokens =
        λ keeps. compiled.safe_image_tokens (keeps_images options given read.options_stand keeps);
    distinct_ids =
        λ keeps. compiled.distinct_ids (keeps_ids options given read.options_stand keeps);
  }

  pub explained : (why : Failure) → IsRefusalOf (handed slice bytes pairs) why →
      Explains events bytes options names why
  explained why h = grind arith

  pub text_given : {S : Type 0} (bytes_of : S → List ℕ) (r : Result S Failure) →
      IfOk r (λ text. Promises given (handed slice bytes pairs) (bytes_of text)) →
      IfOk r (λ text. IsRendered events bytes options names (bytes_of text))
  text_given bytes_of (Ok text) h = rendered (bytes_of text) h
  text_given bytes_of (Err why) h = tt

  pub refusal_given : {S : Type 0} (r : Result S Failure) →
      IfErr r (IsRefusalOf (handed slice bytes pairs)) →
      IfErr r (Explains events bytes options names)
  refusal_given (Ok text) h = tt
  refusal_given (Err why) h = explained why h

-- ---- a compiler's refusal as a failure

pub reported_of : (given : Handed) (why : CompileError) → IsRefusal given why →
    IsRefusalOf given (failure_of why)
reported_of given refusal.Memory h = tt
reported_of given (refusal.Event index rule) h = h

-- what the conversion of an error gives
pub reported : {T E W : Type 0} (claim : E → Type 0) (of : W → E) (why : W) (r : Result T E) →
    claim (of why) → IsErrAnd r (λ made. made ≡ of why) → IfErr r claim
reported claim of why (Ok x) holds is = tt
reported claim of why (Err made) holds is = subst claim (sym is) holds
