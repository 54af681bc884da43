-- The states of the HTML Standard's tokenizer (https://html.spec.whatwg.org/, 13.2.5) that are
-- written out, and definitions that several of them share.
use Rattle.std.specs.Str.{bytes_eq}
use Rattle.std.specs.Prelude.{ℕ, ◌==◌, Bool, true, false, not, ◌||◌, if◌then◌else◌, List, [], ◌∷◌}
use Rattle.std.specs.Prelude.{codes}
use Rattle.md_text.specs.Bytes.{lower, is_one_of}
use Rattle.md_safe.specs.Token.{Token, StartTag}
use Rattle.md_safe.specs.Tag.{Tag, token_of}

-- ---- states

-- the states that are written out: those of tags have the current tag, those of a character
-- reference the return state, the DOCTYPE name state the name so far, and the RCDATA end tag name
-- state the temporary buffer
pub data State : Type 0 where
  Data : State
  TagOpen : State
  EndTagOpen : State
  TagName : Tag → State
  BeforeAttributeName : Tag → State
  AttributeName : Tag → State
  AfterAttributeName : Tag → State
  BeforeAttributeValue : Tag → State
  AttributeValueDoubleQuoted : Tag → State
  AfterAttributeValueQuoted : Tag → State
  SelfClosingStartTag : Tag → State
  CharacterReference : State → State
  NamedCharacterReference : State → State
  MarkupDeclarationOpen : State
  DoctypeBegun : State
  BeforeDoctypeName : State
  DoctypeName : List ℕ → State
  Rcdata : State
  RcdataLessThanSign : State
  RcdataEndTagOpen : State
  RcdataEndTagName : Tag → List ℕ → State

-- the tokenizer emits tokens and continues in a state with the rest of its input; or, at the end of
-- the input, it emits tokens and stops; or the transition isn't written out
pub data Step : Type 0 where
  Goes : List Token → State → List ℕ → Step
  Stops : List Token → Step
  Stuck : Step

-- ---- definitions that several states share

-- tab, LF, FF or space
abbrev pub is_space : ℕ → Bool
is_space b = (b == 9) || (b == 10) || (b == 12) || (b == 32)

-- the replacement of a byte where NUL is replaced: U+FFFD for NUL, any other byte itself
abbrev pub in_value : ℕ → List ℕ
in_value b = if b == 0 then 239 ∷ 191 ∷ 189 ∷ [] else b ∷ []

-- the bytes appended to a name for a byte: the same, with letters lowered
abbrev pub in_name : ℕ → List ℕ
in_name b = in_value (lower b)

-- 13.2.6, the names of start tags at which tree construction may set another state of the
-- tokenizer, or begins foreign content, and the three (the last) inside which it may ignore a
-- `title`, and leave the state unchanged
abbrev pub switching : List (List ℕ)
switching = codes "title" ∷ codes "textarea" ∷ codes "style" ∷ codes "xmp" ∷ codes "iframe"
    ∷ codes "noembed" ∷ codes "noframes" ∷ codes "script" ∷ codes "plaintext" ∷ codes "noscript"
    ∷ codes "svg" ∷ codes "math" ∷ codes "select" ∷ codes "frameset" ∷ codes "template" ∷ []

-- no start tag of these names
abbrev pub leaves_state : Token → Bool
leaves_state token =
    elim token [ StartTag name attributes flag ↦ not (is_one_of switching name) | _ ↦ true ]

-- a start tag `title`
abbrev pub begins_title : Token → Bool
begins_title token =
    elim token [ StartTag name attributes flag ↦ bytes_eq name (codes "title") | _ ↦ false ]

-- "switch to the data state; emit the current tag token": at `title` tree construction then
-- switches to the RCDATA state (13.2.6.2), and its action at the other names isn't written out
abbrev pub emitted : Tag → Bool → List ℕ → Step
emitted tag flag rest =
    if begins_title (token_of tag flag) then Goes (token_of tag flag ∷ []) Rcdata rest
    else (if leaves_state (token_of tag flag)
    then Goes (token_of tag flag ∷ []) Data rest else Stuck)
