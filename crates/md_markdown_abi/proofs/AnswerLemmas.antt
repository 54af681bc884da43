-- The promises of an answer about Markdown, from the text or the failure that it reports.
use Rattle.std.proofs.Common.{◌≡◌, ◌≢◌, ℕ, ◌≤◌, List, length, refl, sym, ap, ◌∙◌, subst}
use Rattle.std.proofs.Common.{inl, inr, arith, ◌⊎◌}
use Rattle.md_abi.specs.Failures.{answer_of}
use Rattle.md_abi.specs.Buffer.{HandsOver, IsHandedOver, IsListHandedOver}
use Rattle.md_abi.specs.declared.answer.Answer.{Answer}
use Rattle.md_abi.specs.declared.failure.Failure.{Failure}
use Rattle.md_abi.specs.declared.failure.Failure.TheVariants as failure
use Rattle.md_abi.proofs.AnswerLemmas.{never, failure_hands_over, failed}
use Rattle.md_abi.proofs.ListAnswerLemmas.{moved}
use Rattle.md_markdown_abi.specs.Text.{IsRead}
use Rattle.md_markdown_abi.specs.Failures.{answer_with, answer_of_markdown, ExplainsFault}
use Rattle.md_markdown_abi.specs.Failures.{ExplainsMarkdown}
use Rattle.md_markdown_abi.specs.Answers.{TellsOfMarkdown, IsOfMarkdown}
use Rattle.md_markdown_abi.specs.declared.option.CMarkdownOptions.{CMarkdownOptions}
use Rattle.md_markdown_abi.specs.declared.failure.MarkdownFailure.{MarkdownFailure}
use Rattle.md_markdown_abi.specs.declared.failure.MarkdownFailure.TheVariants as variant
use variant.{NoVersion, InputTooLong, NotUtf8, OutputTooLong, TooMuchWork, Failed}

-- ---- the result of a call with a failure
pub markdown_hands_over :
    (claim : ℕ → List ℕ → Type 0) (old : List ℕ) (why : MarkdownFailure) (answer : Answer) →
    answer ≡ answer_of_markdown why → HandsOver (claim answer.index) old old answer
markdown_hands_over claim old why answer is =
    subst (λ a. HandsOver (claim a.index) old old a) (sym is) (of why)
  where
    of : (why : MarkdownFailure) →
        HandsOver (claim (answer_of_markdown why).index) old old (answer_of_markdown why)
    of NoVersion = failed (claim 0) old (answer_with 35 0 0) (omega arith)
    of (InputTooLong size) = failed (claim 0) old (answer_with 32 0 size) (omega arith)
    of (NotUtf8 index) = failed (claim index) old (answer_with 34 index 0) (omega arith)
    of OutputTooLong = failed (claim 0) old (answer_with 33 0 0) (omega arith)
    of TooMuchWork = failed (claim 0) old (answer_with 37 0 0) (omega arith)
    of (Failed cause) =
        failure_hands_over (claim (answer_of cause).index) old cause (answer_of cause) refl

-- ---- the answer about a document
module _ (bytes : List ℕ) (options : CMarkdownOptions) where
  -- with a status that reports nothing else
  of_read : (answer : Answer) → answer.status ≢ 35 → answer.status ≢ 5 → answer.status ≢ 32 →
      answer.status ≢ 34 → IsRead bytes options → TellsOfMarkdown bytes options answer
  of_read answer version option input utf8 read = record {
    other_version = λ is. absurd (version is);
    version = λ _. read.readable.options_read.version;
    no_option = λ is. absurd (option is);
    readable = λ _. read.readable.options_read.readable;
    too_long = λ is. absurd (input is);
    counted = λ is. absurd (input is);
    fits = λ _. read.readable.fits;
    invalid_from = λ is. absurd (utf8 is);
    utf8 = λ _ _. read.utf8;
  }

  of_fault : (why : Failure) → ExplainsFault bytes options why →
      TellsOfMarkdown bytes options (answer_of why)
  of_fault failure.Memory h = record {
    other_version = never 7 35 refl;
    version = λ _. h;
    no_option = never 7 5 refl;
    readable = λ past. absurd (past.memory refl);
    too_long = never 7 32 refl;
    counted = never 7 32 refl;
    fits = λ past. absurd (past.options.memory refl);
    invalid_from = never 7 34 refl;
    utf8 = λ past. absurd (past.options.memory refl);
  }
  of_fault (failure.Option number) h = record {
    other_version = never 5 35 refl;
    version = λ _. h.0;
    no_option = λ _. h.1;
    readable = λ past. absurd (past.option refl);
    too_long = never 5 32 refl;
    counted = never 5 32 refl;
    fits = λ past. absurd (past.options.option refl);
    invalid_from = never 5 34 refl;
    utf8 = λ past. absurd (past.options.option refl);
  }
  of_fault (failure.Refused index rule) h = absurd h
  of_fault (failure.Event index) h = absurd h
  of_fault (failure.Name index) h = absurd h
  of_fault (failure.Line number) h = absurd h

  of_failure : (why : MarkdownFailure) → ExplainsMarkdown bytes options why →
      TellsOfMarkdown bytes options (answer_of_markdown why)
  of_failure NoVersion h = record {
    other_version = λ _. h;
    version = λ other. absurd (other refl);
    no_option = never 35 5 refl;
    readable = λ past. absurd (past.version refl);
    too_long = never 35 32 refl;
    counted = never 35 32 refl;
    fits = λ past. absurd (past.options.version refl);
    invalid_from = never 35 34 refl;
    utf8 = λ past. absurd (past.options.version refl);
  }
  of_failure (InputTooLong size) h = record {
    other_version = never 32 35 refl;
    version = λ _. h.0.version;
    no_option = never 32 5 refl;
    readable = λ _. h.0.readable;
    too_long = λ _. h.1.1;
    counted = λ _. h.1.0;
    fits = λ past. absurd (past.input refl);
    invalid_from = never 32 34 refl;
    utf8 = λ past. absurd (past.input refl);
  }
  of_failure (NotUtf8 index) h = record {
    other_version = never 34 35 refl;
    version = λ _. h.0.options_read.version;
    no_option = never 34 5 refl;
    readable = λ _. h.0.options_read.readable;
    too_long = never 34 32 refl;
    counted = never 34 32 refl;
    fits = λ _. h.0.fits;
    invalid_from = λ _. h.1;
    utf8 = λ _ other. absurd (other refl);
  }
  of_failure OutputTooLong h = of_read (answer_with 33 0 0) (never 33 35 refl) (never 33 5 refl)
      (never 33 32 refl) (never 33 34 refl) h
  of_failure TooMuchWork h = of_read (answer_with 37 0 0) (never 37 35 refl) (never 37 5 refl)
      (never 37 32 refl) (never 37 34 refl) h
  of_failure (Failed cause) h = of_fault cause h

  pub markdown_says : (why : MarkdownFailure) (answer : Answer) → answer ≡ answer_of_markdown why →
      ExplainsMarkdown bytes options why → TellsOfMarkdown bytes options answer
  markdown_says why answer is h = subst (TellsOfMarkdown bytes options) (sym is) (of_failure why h)

  -- with a text, or one that is too long for the buffer
  pub text_says : (answer : Answer) → answer.status ≤ 1 → IsRead bytes options →
      TellsOfMarkdown bytes options answer
  text_says answer few read = of_read answer (λ is. omega (arith, is, few))
      (λ is. omega (arith, is, few)) (λ is. omega (arith, is, few)) (λ is. omega (arith, is, few))
      read

  -- ---- fields
  fault_fields : (why : Failure) → ExplainsFault bytes options why → IsOfMarkdown (answer_of why)
  fault_fields failure.Memory h = record {
    known = inr (inr (inl refl));
    no_rule = refl;
    within = λ _. omega arith;
    no_place = λ _ _. refl;
    no_length = λ _ _. refl;
  }
  fault_fields (failure.Option number) h = record {
    known = inr (inl refl);
    no_rule = refl;
    within = λ less. absurd (omega (arith, less));
    no_place = λ more _. absurd (omega (arith, more));
    no_length = λ _ _. refl;
  }
  fault_fields (failure.Refused index rule) h = absurd h
  fault_fields (failure.Event index) h = absurd h
  fault_fields (failure.Name index) h = absurd h
  fault_fields (failure.Line number) h = absurd h

  answer_fields : (status index size : ℕ) → 32 ≤ status → (status ≤ 35) ⊎ (status ≡ 37) →
      (status ≢ 34 → index ≡ 0) → (status ≢ 32 → size ≡ 0) →
      IsOfMarkdown (answer_with status index size)
  answer_fields status index size many few place counted = record {
    known = inr (inr (inr (many, few)));
    no_rule = refl;
    within = λ less. absurd (omega (arith, less, many));
    no_place = λ _. place;
    no_length = λ _. counted;
  }

  pub markdown_fields : (why : MarkdownFailure) (answer : Answer) →
      answer ≡ answer_of_markdown why → ExplainsMarkdown bytes options why → IsOfMarkdown answer
  markdown_fields why answer is h = subst IsOfMarkdown (sym is) (of why h)
    where
      of : (why : MarkdownFailure) → ExplainsMarkdown bytes options why →
          IsOfMarkdown (answer_of_markdown why)
      of NoVersion h = answer_fields 35 0 0 (omega arith) (inl (omega arith)) (λ _. refl)
          (λ _. refl)
      of (InputTooLong size) h = answer_fields 32 0 size (omega arith) (inl (omega arith))
          (λ _. refl) (λ other. absurd (other refl))
      of (NotUtf8 index) h = answer_fields 34 index 0 (omega arith) (inl (omega arith))
          (λ other. absurd (other refl)) (λ _. refl)
      of OutputTooLong h = answer_fields 33 0 0 (omega arith) (inl (omega arith)) (λ _. refl)
          (λ _. refl)
      of TooMuchWork h = answer_fields 37 0 0 (omega arith) (inr refl) (λ _. refl) (λ _. refl)
      of (Failed cause) h = fault_fields cause h

-- of a text and its list
text_of_markdown : (status start size : ℕ) → status ≤ 1 → start ≤ size →
    IsOfMarkdown (answer_with status start size)
text_of_markdown status start size few within = record {
  known = inl (omega (arith, few));
  no_rule = refl;
  within = λ _. within;
  no_place = λ more _. absurd (omega (arith, more, few));
  no_length = λ many _. absurd (omega (arith, many, few));
}

pub text_fields : (whole : List ℕ) (start : ℕ) (old new : List ℕ) (answer : Answer) →
    start ≤ length whole → IsListHandedOver whole start old new answer → IsOfMarkdown answer
text_fields whole start old new answer within listed = of listed.handed
  where
    of : IsHandedOver whole old new listed.alone → IsOfMarkdown answer
    of (inl done) =
        let is : answer ≡ answer_with 0 start (length whole) =
        listed.answered ∙ ap (moved start) done.answered in
        subst IsOfMarkdown (sym is)
        (text_of_markdown 0 start (length whole) (omega arith) within)
    of (inr kept) =
        let is : answer ≡ answer_with 1 start (length whole) =
        listed.answered ∙ ap (moved start) kept.answered in
        subst IsOfMarkdown (sym is)
        (text_of_markdown 1 start (length whole) (omega arith) within)
