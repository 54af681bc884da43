-- The HTML Standard's tokenizer (https://html.spec.whatwg.org/, 13.2.5), as far as it is written
-- out here: each transition is the Standard's, or it is `Stuck`, and about a text that gets stuck
-- nothing is claimed. It reads bytes of UTF-8: from 128 on each is "anything else" in all these
-- states. Parse errors change no token, and are left out.
use Rattle.std.specs.Str.{bytes_eq}
use Rattle.std.specs.Prelude.{◌≡◌, ℕ, zero, suc, ◌==◌, Bool, true, false, ◌&&◌, ◌||◌, if◌then◌else◌}
use Rattle.std.specs.Prelude.{List, [], ◌∷◌, ◌++◌, map, take, drop, length, Option, Some, None}
use Rattle.std.specs.Prelude.{option_map, codes, nat_eq}
use Rattle.std.specs.List.{starts_with}
use Rattle.md_text.specs.Bytes.{is_between, is_letter, lower, lowered}
use Rattle.md_safe.specs.Input.{with_line_feeds}
use Rattle.md_safe.specs.Token.{Token, Doctype, Character, EndOfFile}
use Rattle.md_safe.specs.Tag.{Tag, new_tag, with_tag_name, with_attribute, with_name, with_value}
use Rattle.md_safe.specs.TokenizerStates.{Data, TagOpen, CharacterReference, Step, Goes, Rcdata}
use Rattle.md_safe.specs.TokenizerStates.{RcdataLessThanSign, in_value, EndTagOpen, TagName}
use Rattle.md_safe.specs.TokenizerStates.{MarkupDeclarationOpen, Stuck, BeforeAttributeName}
use Rattle.md_safe.specs.TokenizerStates.{SelfClosingStartTag, is_space, in_name, emitted}
use Rattle.md_safe.specs.TokenizerStates.{RcdataEndTagOpen, RcdataEndTagName, AttributeName}
use Rattle.md_safe.specs.TokenizerStates.{AfterAttributeName, BeforeAttributeValue}
use Rattle.md_safe.specs.TokenizerStates.{AttributeValueDoubleQuoted, AfterAttributeValueQuoted}
use Rattle.md_safe.specs.TokenizerStates.{DoctypeBegun, BeforeDoctypeName, DoctypeName, State}
use Rattle.md_safe.specs.TokenizerStates.{NamedCharacterReference, Stops}

-- ---- one state after another: the next byte, and what follows it

-- 13.2.5.1 Data state
abbrev pub in_data : ℕ → List ℕ → Step
in_data b rest =
    if b == 38 then Goes [] (CharacterReference Data) rest
    else (if b == 60 then Goes [] TagOpen rest
    else Goes (Character b ∷ []) Data rest)

-- 13.2.5.2 RCDATA state
abbrev pub in_rcdata : ℕ → List ℕ → Step
in_rcdata b rest =
    if b == 38 then Goes [] (CharacterReference Rcdata) rest
    else (if b == 60 then Goes [] RcdataLessThanSign rest
    else Goes (map Character (in_value b)) Rcdata rest)

-- 13.2.5.6 Tag open state; not written out is `?`, a bogus comment
abbrev pub in_tag_open : ℕ → List ℕ → Step
in_tag_open b rest =
    if b == 33 then Goes [] MarkupDeclarationOpen rest
    else (if b == 47 then Goes [] EndTagOpen rest
    else (if is_letter b then Goes [] (TagName (new_tag false)) (b ∷ rest)
    else (if b == 63 then Stuck
    else Goes (Character 60 ∷ []) Data (b ∷ rest))))

-- 13.2.5.7 End tag open state; not written out is anything else, a bogus comment
abbrev pub in_end_tag_open : ℕ → List ℕ → Step
in_end_tag_open b rest =
    if is_letter b then Goes [] (TagName (new_tag true)) (b ∷ rest)
    else (if b == 62 then Goes [] Data rest
    else Stuck)

-- 13.2.5.8 Tag name state
abbrev pub in_tag_name : Tag → ℕ → List ℕ → Step
in_tag_name tag b rest =
    if is_space b then Goes [] (BeforeAttributeName tag) rest
    else (if b == 47 then Goes [] (SelfClosingStartTag tag) rest
    else (if b == 62 then emitted tag false rest
    else Goes [] (TagName (with_tag_name tag (in_name b))) rest))

-- 13.2.5.9 RCDATA less-than sign state
abbrev pub in_rcdata_less_than_sign : ℕ → List ℕ → Step
in_rcdata_less_than_sign b rest =
    if b == 47 then Goes [] RcdataEndTagOpen rest else Goes (Character 60 ∷ []) Rcdata (b ∷ rest)

-- 13.2.5.10 RCDATA end tag open state
abbrev pub in_rcdata_end_tag_open : ℕ → List ℕ → Step
in_rcdata_end_tag_open b rest =
    if is_letter b then Goes [] (RcdataEndTagName (new_tag true) []) (b ∷ rest)
    else Goes (Character 60 ∷ Character 47 ∷ []) Rcdata (b ∷ rest)

-- "an appropriate end tag token": its name is that of the last start tag, in the
-- RCDATA states `title`
abbrev pub is_appropriate : Tag → Bool
is_appropriate tag = bytes_eq tag.name (codes "title")

-- 13.2.5.11 RCDATA end tag name state
abbrev pub in_rcdata_end_tag_name : Tag → List ℕ → ℕ → List ℕ → Step
in_rcdata_end_tag_name tag buffer b rest =
    if is_appropriate tag && is_space b then Goes [] (BeforeAttributeName tag) rest
    else (if is_appropriate tag && (b == 47) then Goes [] (SelfClosingStartTag tag) rest
    else (if is_appropriate tag && (b == 62) then emitted tag false rest else (if is_letter b
    then Goes [] (RcdataEndTagName (with_tag_name tag (lower b ∷ [])) (buffer ++ (b ∷ []))) rest
    else Goes (Character 60 ∷ Character 47 ∷ map Character buffer) Rcdata (b ∷ rest))))

-- 13.2.5.32 Before attribute name state
abbrev pub in_before_attribute_name : Tag → ℕ → List ℕ → Step
in_before_attribute_name tag b rest =
    if is_space b then Goes [] (BeforeAttributeName tag) rest
    else (if (b == 47) || (b == 62) then Goes [] (AfterAttributeName tag) (b ∷ rest)
    else (if b == 61 then Goes [] (AttributeName (with_attribute tag (b ∷ []))) rest
    else Goes [] (AttributeName (with_attribute tag [])) (b ∷ rest)))

-- 13.2.5.33 Attribute name state
abbrev pub in_attribute_name : Tag → ℕ → List ℕ → Step
in_attribute_name tag b rest =
    if is_space b || (b == 47) || (b == 62) then Goes [] (AfterAttributeName tag) (b ∷ rest)
    else (if b == 61 then Goes [] (BeforeAttributeValue tag) rest
    else Goes [] (AttributeName (with_name tag (in_name b))) rest)

-- 13.2.5.34 After attribute name state
abbrev pub in_after_attribute_name : Tag → ℕ → List ℕ → Step
in_after_attribute_name tag b rest =
    if is_space b then Goes [] (AfterAttributeName tag) rest
    else (if b == 47 then Goes [] (SelfClosingStartTag tag) rest
    else (if b == 61 then Goes [] (BeforeAttributeValue tag) rest
    else (if b == 62 then emitted tag false rest
    else Goes [] (AttributeName (with_attribute tag [])) (b ∷ rest))))

-- 13.2.5.35 Before attribute value state; not written out are values in single quotes and
-- values without quotes
abbrev pub in_before_attribute_value : Tag → ℕ → List ℕ → Step
in_before_attribute_value tag b rest =
    if is_space b then Goes [] (BeforeAttributeValue tag) rest
    else (if b == 34 then Goes [] (AttributeValueDoubleQuoted tag) rest
    else (if b == 62 then emitted tag false rest
    else Stuck))

-- 13.2.5.36 Attribute value (double-quoted) state
abbrev pub in_attribute_value : Tag → ℕ → List ℕ → Step
in_attribute_value tag b rest =
    if b == 34 then Goes [] (AfterAttributeValueQuoted tag) rest
    else (if b == 38 then Goes [] (CharacterReference (AttributeValueDoubleQuoted tag)) rest
    else Goes [] (AttributeValueDoubleQuoted (with_value tag (in_value b))) rest)

-- 13.2.5.39 After attribute value (quoted) state
abbrev pub in_after_attribute_value : Tag → ℕ → List ℕ → Step
in_after_attribute_value tag b rest =
    if is_space b then Goes [] (BeforeAttributeName tag) rest
    else (if b == 47 then Goes [] (SelfClosingStartTag tag) rest
    else (if b == 62 then emitted tag false rest
    else Goes [] (BeforeAttributeName tag) (b ∷ rest)))

-- 13.2.5.40 Self-closing start tag state
abbrev pub in_self_closing_start_tag : Tag → ℕ → List ℕ → Step
in_self_closing_start_tag tag b rest =
    if b == 62 then emitted tag true rest
    else Goes [] (BeforeAttributeName tag) (b ∷ rest)

-- 13.2.5.42 Markup declaration open state, at the remaining input; not written out are comments and
-- CDATA sections
abbrev pub in_markup_declaration_open : List ℕ → Step
in_markup_declaration_open input =
    if bytes_eq (lowered (take 7 input)) (codes "doctype")
    then Goes [] DoctypeBegun (drop 7 input) else Stuck

-- 13.2.5.53 DOCTYPE state
abbrev pub in_doctype : ℕ → List ℕ → Step
in_doctype b rest =
    if is_space b then Goes [] BeforeDoctypeName rest else Goes [] BeforeDoctypeName (b ∷ rest)

-- 13.2.5.54 Before DOCTYPE name state; not written out is `>`, a doctype without a name
abbrev pub in_before_doctype_name : ℕ → List ℕ → Step
in_before_doctype_name b rest =
    if is_space b then Goes [] BeforeDoctypeName rest
    else (if b == 62 then Stuck
    else Goes [] (DoctypeName (in_name b)) rest)

-- 13.2.5.55 DOCTYPE name state; not written out is a space, after which identifiers may come
abbrev pub in_doctype_name : List ℕ → ℕ → List ℕ → Step
in_doctype_name name b rest =
    if is_space b then Stuck
    else (if b == 62 then Goes (Doctype name ∷ []) Data rest
    else Goes [] (DoctypeName (name ++ in_name b)) rest)

-- "flush code points consumed as a character reference", and switch to the return state: they are
-- appended to the current attribute's value, or emitted as characters
abbrev pub flushed : State → List ℕ → List ℕ → Step
flushed (AttributeValueDoubleQuoted tag) bytes rest =
    Goes [] (AttributeValueDoubleQuoted (with_value tag bytes)) rest
flushed state bytes rest = Goes (map Character bytes) state rest

-- 13.2.5.72 Character reference state; not written out is `#`, a numeric reference
abbrev pub in_character_reference : State → ℕ → List ℕ → Step
in_character_reference state b rest =
    if is_letter b || is_between 48 57 b then Goes [] (NamedCharacterReference state) (b ∷ rest)
    else (if b == 35 then Stuck
    else flushed state (38 ∷ []) (b ∷ rest))

-- 13.5, the names of the table that are written out, each with its character. In that table a `;`
-- occurs only at the end of a name, so none of these is the beginning of another name: if the input
-- begins with one, it is the longest such name
abbrev pub references : List (List ℕ × ℕ)
references = (codes "amp;", 38) ∷ (codes "lt;", 60) ∷ (codes "gt;", 62) ∷ (codes "quot;", 34) ∷ []

-- 13.2.5.73 Named character reference state, at the remaining input; not written out are the other
-- names, and no name
abbrev pub in_named_reference : List (List ℕ × ℕ) → State → List ℕ → Step
in_named_reference [] state input = Stuck
in_named_reference (reference ∷ more) state input =
    if starts_with nat_eq input reference.0
    then flushed state (reference.1 ∷ []) (drop (length reference.0) input)
    else in_named_reference more state input

-- ---- all states

-- each state at the end of the input
abbrev pub at_end : State → Step
at_end Data = Stops (EndOfFile ∷ [])
at_end TagOpen = Stops (Character 60 ∷ EndOfFile ∷ [])
at_end EndTagOpen = Stops (Character 60 ∷ Character 47 ∷ EndOfFile ∷ [])
at_end (TagName tag) = Stops (EndOfFile ∷ [])
at_end (BeforeAttributeName tag) = Goes [] (AfterAttributeName tag) []
at_end (AttributeName tag) = Goes [] (AfterAttributeName tag) []
at_end (AfterAttributeName tag) = Stops (EndOfFile ∷ [])
at_end (BeforeAttributeValue tag) = Stuck
at_end (AttributeValueDoubleQuoted tag) = Stops (EndOfFile ∷ [])
at_end (AfterAttributeValueQuoted tag) = Stops (EndOfFile ∷ [])
at_end (SelfClosingStartTag tag) = Stops (EndOfFile ∷ [])
at_end (CharacterReference state) = flushed state (38 ∷ []) []
at_end (NamedCharacterReference state) = Stuck
at_end MarkupDeclarationOpen = Stuck
at_end DoctypeBegun = Stuck
at_end BeforeDoctypeName = Stuck
at_end (DoctypeName name) = Stuck
at_end Rcdata = Stops (EndOfFile ∷ [])
at_end RcdataLessThanSign = Goes (Character 60 ∷ []) Rcdata []
at_end RcdataEndTagOpen = Goes (Character 60 ∷ Character 47 ∷ []) Rcdata []
at_end (RcdataEndTagName tag buffer) =
    Goes (Character 60 ∷ Character 47 ∷ map Character buffer) Rcdata []

-- each state at the next byte
abbrev pub at_byte : State → ℕ → List ℕ → Step
at_byte Data b rest = in_data b rest
at_byte TagOpen b rest = in_tag_open b rest
at_byte EndTagOpen b rest = in_end_tag_open b rest
at_byte (TagName tag) b rest = in_tag_name tag b rest
at_byte (BeforeAttributeName tag) b rest = in_before_attribute_name tag b rest
at_byte (AttributeName tag) b rest = in_attribute_name tag b rest
at_byte (AfterAttributeName tag) b rest = in_after_attribute_name tag b rest
at_byte (BeforeAttributeValue tag) b rest = in_before_attribute_value tag b rest
at_byte (AttributeValueDoubleQuoted tag) b rest = in_attribute_value tag b rest
at_byte (AfterAttributeValueQuoted tag) b rest = in_after_attribute_value tag b rest
at_byte (SelfClosingStartTag tag) b rest = in_self_closing_start_tag tag b rest
at_byte (CharacterReference state) b rest = in_character_reference state b rest
at_byte (NamedCharacterReference state) b rest = in_named_reference references state (b ∷ rest)
at_byte MarkupDeclarationOpen b rest = in_markup_declaration_open (b ∷ rest)
at_byte DoctypeBegun b rest = in_doctype b rest
at_byte BeforeDoctypeName b rest = in_before_doctype_name b rest
at_byte (DoctypeName name) b rest = in_doctype_name name b rest
at_byte Rcdata b rest = in_rcdata b rest
at_byte RcdataLessThanSign b rest = in_rcdata_less_than_sign b rest
at_byte RcdataEndTagOpen b rest = in_rcdata_end_tag_open b rest
at_byte (RcdataEndTagName tag buffer) b rest = in_rcdata_end_tag_name tag buffer b rest

-- one step: "consume the next input character"
abbrev pub step : State → List ℕ → Step
step state [] = at_end state
step state (b ∷ rest) = at_byte state b rest

-- ---- runs

-- the tokens of a step, followed by those from the state after it
abbrev pub after_step : (State → List ℕ → Option (List Token)) → Step → Option (List Token)
after_step go (Goes tokens state rest) = option_map (λ later. tokens ++ later) (go state rest)
after_step go (Stops tokens) = Some tokens
after_step go Stuck = None

-- the tokens that are emitted if the tokenizer stops after at most so many steps, else none
abbrev pub run : ℕ → State → List ℕ → Option (List Token)
run zero state input = None
run (suc n) state input = after_step (run n) (step state input)

-- from a state, an input with normalized newlines is emitted as these tokens, and no step gets
-- stuck
pub record IsRun (state : State) (input : List ℕ) (tokens : List Token) : Type 0 where
  pub steps : ℕ
  pub emits : run steps state input ≡ Some tokens

-- from the data state, a text is emitted as these tokens, the last of which is the end of file
abbrev pub IsTokenized : List ℕ → List Token → Type 0
IsTokenized text tokens = IsRun Data (with_line_feeds text) tokens
