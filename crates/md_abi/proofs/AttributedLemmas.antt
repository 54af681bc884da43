-- From the promises about a safe text and its attributes to those about C's result.
use Rattle.std.proofs.Common.{◌≡◌, ℕ, ◌≤◌, false, List, [], ◌∷◌, ◌++◌}
use Rattle.std.proofs.Common.{length, take, drop, Option, Some, None, Result, Ok, Err, IfOk}
use Rattle.std.proofs.Common.{sym, ap, ◌∙◌, subst, arith}
use Rattle.std.specs.Prelude.{IsTrue, option_and_then}
use Rattle.std.proofs.lemmas.Bool.Decides.{nat_tests}
use Rattle.std.proofs.lemmas.List.{length-append, take_at, drop_at}
use Rattle.md_text.specs.Html.{any_attribute, HasOneReadingWith}
use Rattle.md_text.proofs.HtmlReading.{one_reading, all-any}
use Rattle.md_text.specs.declared.options.CompileOptions.{CompileOptions}
use Rattle.md_tree.specs.Grammar.{Handed}
use Rattle.md_tree.specs.Refusal.{IsRefusal}
use Rattle.md_safe.specs.Token.{Token, EndOfFile}
use Rattle.md_safe.specs.Tokens.{tokens}
use Rattle.md_safe.specs.Tokenizer.{IsTokenized}
use Rattle.md_safe.specs.Tokenized.{IsTokenizedAsRead}
use Rattle.md_html.specs.Safe.{IsRefusedFor, OfCompile}
use Rattle.md_html.specs.declared.safe_html.SafeError.{SafeError}
use Rattle.md_html.specs.declared.safe_html.SafeError.TheVariants as wrong
use Rattle.md_safe.specs.Options as safe
use Rattle.md_text.specs.Ids.{are_distinct}
use Rattle.md_page.specs.Added.{shown, with_heading_ids, headings_of}
use Rattle.md_page.specs.Ids.{ids_among, none_begins}
use Rattle.md_page.specs.Attributed.{IsAttributed}
use Rattle.md_page.specs.Pieces.{IsWritten}
use Rattle.md_page.specs.Built.{IsBuiltAsWritten}
use Rattle.md_page.proofs.Rules.{attributed}
use Rattle.md_page.proofs.Forests.{read-built}
use Rattle.md_abi.specs.Options.{flag_of, text_of, HasOptions, KeepsImages}
use Rattle.md_abi.specs.Attributes.{asked, with_rel, listing}
use Rattle.md_abi.specs.Attributed.{IsListedAfter, IsAttributedText}
use Rattle.md_abi.specs.Refusals.{refusal_of, IsRefusalFor}
use Rattle.md_abi.specs.Rendered.{IsRendered}
use Rattle.md_abi.specs.declared.event.CEvent.{CEvent}
use Rattle.md_abi.specs.declared.reference.CReference.{CReference}
use Rattle.md_abi.specs.declared.option.CText.{CText}
use Rattle.md_abi.specs.declared.option.COptions.{COptions}
use Rattle.md_abi.specs.declared.attributes.CAttributes.{CAttributes}
use Rattle.md_abi.proofs.GivenLemmas.{reported_of}

-- ---- safe options of C encode safe options
is_off : (flag : ℕ) → flag_of flag ≡ Some false → flag ≡ 0
is_off flag stands = grind (arith, nat_tests, stands)

is_unset : (given : CText) → text_of given ≡ Some None → given.is_set ≡ 0
is_unset given stands = grind (arith, nat_tests, stands)

pub keeps_images : (given : COptions) (options : CompileOptions) → HasOptions given options →
    safe.KeepsImages options → KeepsImages given
keeps_images given options has keeps = grind (arith, is_off, is_unset)

-- ---- a text has one reading if the tokenizer emits one of its readings
pub reads_once : (text : List ℕ) → IsTokenizedAsRead text → HasOneReadingWith any_attribute text
reads_once text read = grind (arith, all-any, one_reading)

-- ---- a list after a text
pub after : (text list whole : List ℕ) (start : ℕ) → whole ≡ text ++ list → start ≡ length text →
    (take start whole ≡ text) × (drop start whole ≡ list) × (start ≤ length whole)
after text list whole start is at = grind (arith, take_at, drop_at, length-append)

pub listed-none : (text whole : List ℕ) (start : ℕ) (x : List Token) → whole ≡ text ++ [] →
    start ≡ length text →
    IsTokenized text x → IsAttributed text → IsWritten text → IsListedAfter None x start whole
listed-none text whole start x is at tokenized kept written =
    let parts = after text [] whole start is at in
    record {
      within = parts.2;
      added = subst (λ t. IsTokenized t x) (sym parts.0) tokenized;
      attributed = subst IsAttributed (sym parts.0) kept;
      written = subst IsWritten (sym parts.0) written;
      headings = parts.1;
      distinct = λ distinct none. distinct;
    }

-- what is answered without ids
pub none-result : {S E : Type 0} (whole : S → List ℕ) (start : S → ℕ) (prefix : Option (List ℕ))
    (text given : List ℕ) → prefix ≡ None → text ≡ given → IsWritten given → (r : Result S E) →
    IfOk r (λ made. whole made ≡ text ++ []) → IfOk r (λ made. start made ≡ length text) →
    IfOk r (λ made. (x : List Token) → IsTokenized given x →
    IsListedAfter prefix x (start made) (whole made))
none-result whole start prefix text given none same written (Ok made) is at = λ x h.
    subst (λ p. IsListedAfter p x (start made) (whole made)) (sym none)
    (listed-none given (whole made) (start made) x (is ∙ ap (λ t. t ++ []) same)
    (at ∙ ap length same) h (attributed given written) written)
none-result whole start prefix text given none same written (Err why) is at = tt

-- what is answered with ids on headings
pub some-result : {S E : Type 0} (whole : S → List ℕ) (start : S → ℕ) (asked : Option (List ℕ))
    (prefix text given list : List ℕ) → asked ≡ Some prefix →
    ((x : List Token) → IsTokenized given x → IsTokenized text (with_heading_ids prefix x)) →
    ((x : List Token) → IsTokenized given x → list ≡ listing (headings_of x)) →
    ((x : List Token) → IsTokenized given x → IsTrue (are_distinct (ids_among x)) →
    IsTrue (none_begins (shown prefix) (ids_among x)) →
    IsTrue (are_distinct (ids_among (with_heading_ids prefix x)))) →
    IsWritten text → (r : Result S E) → IfOk r (λ made. whole made ≡ text ++ list) →
    IfOk r (λ made. start made ≡ length text) →
    IfOk r (λ made. (x : List Token) → IsTokenized given x →
    IsListedAfter asked x (start made) (whole made))
some-result whole start asked prefix text given list some tokenized listed distinct written
    (Ok made) is at = λ x h.
    (let parts = after text list (whole made) (start made) is at in
    subst (λ p. IsListedAfter p x (start made) (whole made)) (sym some) (record {
      within = parts.2;
      added = subst (λ t. IsTokenized t (with_heading_ids prefix x)) (sym parts.0) (tokenized x h);
      attributed = subst IsAttributed (sym parts.0) (attributed text written);
      written = subst IsWritten (sym parts.0) written;
      headings = parts.1 ∙ listed x h;
      distinct = distinct x h;
    }))
some-result whole start asked prefix text given list some tokenized listed distinct written
    (Err why) is at = tt

-- what is built of a text is built of the bytes before a list
pub built-before : {S E : Type 0} (whole : S → List ℕ) (start : S → ℕ) (given text list : List ℕ)
    (r : Result S E) →
    IfOk r (λ made. whole made ≡ text ++ list) → IfOk r (λ made. start made ≡ length text) →
    (IsBuiltAsWritten given → IsBuiltAsWritten text) →
    IfOk r (λ made. IsBuiltAsWritten given → IsBuiltAsWritten (take (start made) (whole made)))
built-before whole start given text list r is at built = grind (arith, after)

-- the requested attributes are those that were read
pub asked_is : (given : CText) (read : Option (List ℕ)) → text_of given ≡ Some read →
    asked given ≡ read
asked_is given read stands = ap (option_and_then (λ text. text)) stands

pub made_text :
    (events : List CEvent) (bytes : List ℕ) (options : COptions) (names : List CReference)
    (attributes : CAttributes) (rel prefix : Option (List ℕ)) (plain whole : List ℕ) (start : ℕ)
    (given : CompileOptions) → HasOptions options given → safe.KeepsImages given →
    IsRendered events bytes options names plain → IsTokenizedAsRead plain →
    text_of attributes.rel ≡ Some rel →
    text_of attributes.heading_ids ≡ Some prefix →
    ((x : List Token) → IsTokenized plain x → IsListedAfter prefix (with_rel rel x) start whole) →
    (IsBuiltAsWritten plain → IsBuiltAsWritten (take start whole)) →
    IsAttributedText events bytes options names attributes start whole
made_text events bytes options names attributes rel prefix plain whole start given has keeps
    rendered read rel_read prefix_read listed built =
    let emitted : List Token = tokens read.forest ++ (EndOfFile ∷ []) in
    record {
      plain = plain;
      tokens = emitted;
      safe = keeps_images options given has keeps;
      rendered = rendered;
      tokenized = read.tokenized;
      listed = subst (λ p. IsListedAfter p (with_rel (asked attributes.rel) emitted) start whole)
          (sym (asked_is attributes.heading_ids prefix prefix_read))
          (subst (λ r. IsListedAfter prefix (with_rel r emitted) start whole)
          (sym (asked_is attributes.rel rel rel_read)) (listed emitted read.tokenized));
      tree = λ h. built (read-built plain h);
    }

-- ---- refusals

-- the error of a safe text
pub safe_fault_of : (given : Handed) (options : CompileOptions) (why : SafeError) →
    IsRefusedFor options why → OfCompile (IsRefusal given) why →
    IsRefusalFor given options (refusal_of why)
safe_fault_of given options wrong.Options unsafe refused = unsafe
safe_fault_of given options (wrong.Compile cause) unsafe refused = reported_of given cause refused
