-- From the promises about a text, and the reason why there is none, to C's answer.
use Rattle.std.proofs.Common.{◌+◌, ◌*◌, ◌≡◌, ℕ, ◌≤◌, Bool, true, List, Option, Some, Result, Ok}
use Rattle.std.proofs.Common.{Err, ◌⊎◌, inl, inr}
use Rattle.std.proofs.Common.{take, [], ◌∷◌, ◌++◌, IfErr, is_some, refl, sym, ap, ◌∙◌}
use Rattle.std.proofs.Common.{subst}
use Rattle.std.specs.Prelude.{None, IsErrAnd, option_map, slice_get}
use Rattle.std.specs.Prelude.{string_bytes}
use Rattle.md_text.specs.Ids.{HasDistinctIds}
use Rattle.md_safe.specs.Token.{Token, EndOfFile}
use Rattle.md_safe.specs.Tokens.{tokens}
use Rattle.md_safe.specs.Tokenizer.{IsTokenized}
use Rattle.md_safe.specs.Tokenized.{IsSafelyTokenized}
use Rattle.md_safe.specs.Contents.{IsContained}
use Rattle.md_safe.specs.Built.{IsBuiltAsRead}
use Rattle.md_page.specs.Built.{IsBuiltAsWritten}
use Rattle.md_page.proofs.Forests.{read-built}
use Rattle.md_abi.specs.Options.{flag_of, text_of}
use Rattle.md_abi.specs.Attributes.{asked, with_rel}
use Rattle.md_abi.specs.Attributed.{IsListedAfter}
use Rattle.md_abi.specs.Failures.{IsFaultOf}
use Rattle.md_abi.specs.declared.failure.Failure.{Failure}
use Rattle.md_abi.specs.declared.failure.Failure.TheVariants as failure
use Rattle.md_abi.proofs.AttributedLemmas.{asked_is}
use Rattle.md_depth.specs.Levels.{NestsWithin}
use Rattle.md_markdown.specs.Depth.{most_depth}
use Rattle.md_markdown.specs.Keeping.{IsKeptOf}
use Rattle.md_markdown.specs.Made.{IsMadeOf}
use Rattle.md_blocks.specs.declared.options.MarkdownOptions.{MarkdownOptions}
use Rattle.md_markdown_abi.specs.Numbers.{markdown_version}
use Rattle.md_markdown_abi.specs.Options.{HasMarkdownOptions, readable_fields, keeps_html}
use Rattle.md_markdown_abi.specs.Text.{IsPlainOf, IsMadeFor, IsMarkdownText}
use Rattle.md_markdown_abi.specs.Failures.{IsOptionFault}
use Rattle.md_markdown_abi.specs.Failures.{ExplainsMarkdown}
use Rattle.md_markdown_abi.specs.declared.option.CMarkdownOptions.{CMarkdownOptions}
use Rattle.md_markdown_abi.specs.declared.failure.MarkdownFailure.{MarkdownFailure}
use Rattle.md_markdown_abi.specs.declared.failure.MarkdownFailure.TheVariants as variant
use variant.{Failed}

-- ---- a text

-- a flag that is 1 is on
pub is_on : (value : Option Bool) (flag : Bool) → value ≡ Some flag → value ≡ Some true →
    flag ≡ true
is_on value flag is on = cc

pub plain_of : (bytes text : List ℕ) (given : CMarkdownOptions) (options : MarkdownOptions)
    (plain : List ℕ) → text ≡ bytes → HasMarkdownOptions given options →
    IsMadeFor given options text plain → IsSafelyTokenized plain → IsContained plain →
    IsBuiltAsRead plain → NestsWithin (2 * most_depth + 5) plain →
    (options.number_ids ≡ true → HasDistinctIds plain) → IsPlainOf bytes given plain
plain_of bytes text given options plain same has made safe contained tree nesting distinct =
    record {
      markdown = options;
      encoded = has;
      made = subst (λ b. IsMadeFor given options b plain) same made;
      safe = safe;
      contained = contained;
      tree = tree;
      nesting = nesting;
      distinct_ids = λ one.
          distinct (is_on (flag_of given.number_ids) options.number_ids has.number_ids
          (ap flag_of one));
    }

-- where HTML is kept, a text of either kind is one that is made for the options
pub kept_for : (text : List ℕ) (given : CMarkdownOptions) (options : MarkdownOptions)
    (plain : List ℕ) → keeps_html given.html ≡ true →
    IsMadeOf options text plain ⊎ IsKeptOf options text plain → IsMadeFor given options text plain
kept_for text given options plain keeps (inl own) = inl own
kept_for text given options plain keeps (inr kept) = inr (keeps, kept)

pub made_text : (bytes : List ℕ) (given : CMarkdownOptions) (rel prefix : Option (List ℕ))
    (plain whole : List ℕ) (start : ℕ) → IsPlainOf bytes given plain → text_of given.rel ≡ Some
    rel →
    text_of given.heading_ids ≡ Some prefix →
    ((x : List Token) → IsTokenized plain x → IsListedAfter prefix (with_rel rel x) start whole) →
    (IsBuiltAsWritten plain → IsBuiltAsWritten (take start whole)) →
    start ≤ given.max_output → IsMarkdownText bytes given start whole
made_text bytes given rel prefix plain whole start made rel_read prefix_read listed built fits =
    let read = made.safe.as_read in
    let emitted : List Token = tokens read.forest ++ (EndOfFile ∷ []) in
    record {
      plain = plain;
      tokens = emitted;
      made = made;
      tokenized = read.tokenized;
      listed = subst (λ p. IsListedAfter p (with_rel (asked given.rel) emitted) start whole)
          (sym (asked_is given.heading_ids prefix prefix_read))
          (subst (λ r. IsListedAfter prefix (with_rel r emitted) start whole)
          (sym (asked_is given.rel rel rel_read)) (listed emitted read.tokenized));
      built = built (read-built plain made.tree);
      fits = fits;
    }

-- ---- failures

-- an option's
module _ {A : Type 0} (options : CMarkdownOptions) (field : ℕ) (value : Option A)
    (at : slice_get (readable_fields options) field ≡ Some (is_some value)) where
  pub fault_of : (why : Failure) → IsFaultOf field value why → IsOptionFault options why
  fault_of failure.Memory fault = tt
  fault_of (failure.Option number) fault =
      ap (slice_get (readable_fields options)) fault.0 ∙ at
      ∙ ap (λ read. Some (is_some read)) fault.1
  fault_of (failure.Event index) fault = absurd fault
  fault_of (failure.Name index) fault = absurd fault
  fault_of (failure.Line number) fault = absurd fault
  fault_of (failure.Refused index rule) fault = absurd fault

  -- the result of `?`
  pub fault_reported : {T : Type 0} (r : Result T Failure) (why : Failure) →
      IsErrAnd r (λ made. made ≡ why) →
      IsFaultOf field value why → IfErr r (IsOptionFault options)
  fault_reported (Ok x) why same fault = tt
  fault_reported (Err made) why same fault =
      subst (IsOptionFault options) (sym same) (fault_of why fault)

module _ (bytes : List ℕ) (given : CMarkdownOptions) where
  -- what `?` makes of a failure that is explained
  pub reported : {T : Type 0} (r : Result T MarkdownFailure) (why : MarkdownFailure) →
      IsErrAnd r (λ made. made ≡ why) → ExplainsMarkdown bytes given why →
      IfErr r (ExplainsMarkdown bytes given)
  reported (Ok x) why same explained = tt
  reported (Err made) why same explained = subst (ExplainsMarkdown bytes given) (sym same) explained

  pub option_fault : given.version ≡ markdown_version → (why : Failure) → IsOptionFault given why →
      ExplainsMarkdown bytes given (Failed why)
  option_fault version failure.Memory fault = version
  option_fault version (failure.Option number) fault = (version, fault)
  option_fault version (failure.Event index) fault = absurd fault
  option_fault version (failure.Name index) fault = absurd fault
  option_fault version (failure.Line number) fault = absurd fault
  option_fault version (failure.Refused index rule) fault = absurd fault
