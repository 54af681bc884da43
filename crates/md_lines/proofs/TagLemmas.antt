-- What is left of a text after the parts of a tag.
use Rattle.std.proofs.Common.{◌≡◌, ◌<◌, ◌≤◌, ◌+◌, ◌∙◌, ℕ, zero, suc, Bool, true, false, List, [], ◌∷◌}
use Rattle.std.proofs.Common.{true≢false, refl, sym, arith, length, drop, subst}
use Rattle.std.specs.Prelude.{is_some, Option, Some, None, IfSome, ◌==◌, not, nat_lt, if◌then◌else◌}
use Rattle.std.specs.List.{prefix_len}
use Rattle.std.proofs.lemmas.List.{length-drop}
use Rattle.std.proofs.lemmas.Bool.{lt-ltb, and_parts}
use Rattle.md_lines.specs.Classes.{is_in}
use Rattle.md_lines.specs.Lines.{is_blank}
use Rattle.md_lines.specs.declared.class.Class.TheVariants.{Name, Unquoted}
use Rattle.md_lines.specs.Tags.{after_attribute, after_byte, after_opening, after_quoted, after_run}
use Rattle.md_lines.specs.Tags.{after_specification, after_value, begins_name}
use Rattle.md_lines.specs.Tags.{has_attribute, next_passes, past, run_of}
use Rattle.md_lines.specs.Texts.{after_next, after_spaces, begins_with, begins_with_space, is_none}
use Rattle.md_lines.specs.Texts.{size, unindented}

-- ---- no part makes a text longer
size-next : (text : List (List ℕ)) → size (after_next text) ≤ size text
size-next [] = omega arith
size-next ([] ∷ []) = omega arith
size-next ([] ∷ line ∷ lines) = omega arith
size-next ((byte ∷ line) ∷ lines) = omega arith

size-spaces : (text : List (List ℕ)) → size (after_spaces text) ≤ size text
size-spaces [] = omega arith
size-spaces (line ∷ []) = omega (arith, length-drop (prefix_len is_blank line) line)
size-spaces (line ∷ next ∷ lines) = by (is_none (unindented line)) (size-spaces (next ∷ lines))
  where
    by : (blank : Bool) → size (after_spaces (next ∷ lines)) ≤ size (next ∷ lines) →
        size (if blank then after_spaces (next ∷ lines) else unindented line ∷ next ∷ lines)
        ≤ size (line ∷ next ∷ lines)
    by true later = omega (arith, later)
    by false later = omega (arith, length-drop (prefix_len is_blank line) line)

size-run : (test : ℕ → Bool) (text : List (List ℕ)) → size (after_run test text) ≤ size text
size-run test [] = omega arith
size-run test (line ∷ lines) = omega (arith, length-drop (prefix_len test line) line)

-- a text after no more than so much
abbrev AtMost : ℕ → Option (List (List ℕ)) → Type 0
AtMost most rest = IfSome rest (λ text. size text ≤ most)

more : (few most : ℕ) (rest : Option (List (List ℕ))) → few ≤ most → AtMost few rest →
    AtMost most rest
more few most None le few-is = few-is
more few most (Some rest) le few-is = omega (arith, le, few-is)

size-quoted : (quote : ℕ) (text : List (List ℕ)) → AtMost (size text) (after_quoted quote text)
size-quoted quote [] = tt
size-quoted quote (line ∷ lines) = by (nat_lt (prefix_len (λ byte. not (byte == quote)) line)
    (length line)) (size-quoted quote lines)
  where
    count : ℕ
    count = prefix_len (λ byte. not (byte == quote)) line

    by : (here : Bool) → AtMost (size lines) (after_quoted quote lines) →
        AtMost (size (line ∷ lines))
        (if here then Some (drop (suc count) line ∷ lines) else after_quoted quote lines)
    by true later = omega (arith, length-drop (suc count) line)
    by false later =
        more (size lines) (size (line ∷ lines)) (after_quoted quote lines) (omega arith) later

size-value : (text : List (List ℕ)) → AtMost (size text) (after_value text)
size-value text = by (begins_with 34 text) (begins_with 39 text)
    (nat_lt 0 (run_of (is_in Unquoted) text))
  where
    quoted : (quote : ℕ) → AtMost (size text) (after_quoted quote (after_next text))
    quoted quote = more (size (after_next text)) (size text) _ (size-next text)
        (size-quoted quote (after_next text))

    by : (double single some : Bool) → AtMost (size text) (if double
        then after_quoted 34 (after_next text) else if single then after_quoted 39 (after_next text)
        else if some then Some (after_run (is_in Unquoted) text) else None)
    by true single some = quoted 34
    by false true some = quoted 39
    by false false true = size-run (is_in Unquoted) text
    by false false false = tt

size-specification : (text : List (List ℕ)) → AtMost (size text) (after_specification text)
size-specification text = by (begins_with 61 (after_spaces text))
  where
    value : List (List ℕ)
    value = after_spaces (after_next (after_spaces text))

    small : size value ≤ size text
    small = omega (
      arith,
      size-spaces text,
      size-next (after_spaces text),
      size-spaces (after_next (after_spaces text)),
    )

    by : (has : Bool) → AtMost (size text) (if has then after_value value else Some text)
    by true = more (size value) (size text) (after_value value) small (size-value value)
    by false = omega arith

-- ---- values
pub quoted-here : (quote : ℕ) (line : List ℕ) (lines : List (List ℕ)) (n : ℕ) →
    n ≡ prefix_len (λ byte. not (byte == quote)) line → n < length line →
    after_quoted quote (line ∷ lines) ≡ Some (drop (suc n) line ∷ lines)
quoted-here quote line lines n is lt = rw (sym is, lt-ltb n (length line) lt) refl

-- ---- attributes
-- two texts end alike, if the attributes of a tag are read from there
pub record EndsAlike (whole text : List (List ℕ)) : Type 0 where
  pub most : ℕ
  pub enough : size text ≤ most
  pub same : after_opening (size whole) whole ≡ after_opening most text

-- no attribute comes next
pub ends : (whole : List (List ℕ)) (line : List ℕ) (lines : List (List ℕ)) →
    EndsAlike whole (line ∷ lines) → has_attribute (line ∷ lines) ≡ false →
    after_opening (size whole) whole
    ≡ after_byte 62 (past 47 (after_spaces (line ∷ lines)))
ends whole line lines alike none = alike.same ∙ by alike.most alike.enough
  where
    by : (most : ℕ) → size (line ∷ lines) ≤ most → after_opening most (line ∷ lines)
        ≡ after_byte 62 (past 47 (after_spaces (line ∷ lines)))
    by zero enough = absurd (omega (arith, enough))
    by (suc most) enough = rw (none, after_opening) refl

-- an attribute comes next, and isn't one
pub fails : (whole : List (List ℕ)) (line : List ℕ) (lines : List (List ℕ)) →
    EndsAlike whole (line ∷ lines) → has_attribute (line ∷ lines) ≡ true →
    after_attribute (line ∷ lines) ≡ None → after_opening (size whole) whole ≡ None
fails whole line lines alike has none = alike.same ∙ by alike.most
  where
    by : (most : ℕ) → after_opening most (line ∷ lines) ≡ None
    by zero = refl
    by (suc most) = rw (has, none, after_opening) refl

-- a name has a byte
name-byte : (byte : ℕ) → begins_name byte ≡ true → is_in Name byte ≡ true
name-byte byte begins = grind (arith, begins)

named : (text : List (List ℕ)) → next_passes begins_name text ≡ true →
    suc (size (after_run (is_in Name) text)) ≤ size text
named [] has = absurd (true≢false (sym has))
named ([] ∷ lines) has = absurd (true≢false (sym has))
named ((byte ∷ line) ∷ lines) has =
    rw (name-byte byte has)
    (omega (arith, length-drop (1 + prefix_len (is_in Name) line) (byte ∷ line)))

-- an attribute comes next
pub goes : (whole : List (List ℕ)) (line : List ℕ) (lines rest : List (List ℕ)) →
    EndsAlike whole (line ∷ lines) → has_attribute (line ∷ lines) ≡ true →
    after_attribute (line ∷ lines) ≡ Some rest →
    (suc (size rest) ≤ size (line ∷ lines)) × EndsAlike whole rest
goes whole line lines rest alike has is = (shorter, by alike.most alike.enough alike.same)
  where
    text : List (List ℕ)
    text = line ∷ lines

    after : List (List ℕ)
    after = after_run (is_in Name) (after_spaces text)

    small : AtMost (size after) (Some rest)
    small = subst (AtMost (size after)) is (size-specification after)

    shorter : suc (size rest) ≤ size text
    shorter = omega (
      arith,
      small,
      size-spaces text,
      named (after_spaces text)
          (and_parts (begins_with_space text) (next_passes begins_name (after_spaces text)) has).1,
    )

    by : (most : ℕ) → size text ≤ most → after_opening (size whole) whole ≡ after_opening most text →
        EndsAlike whole rest
    by zero enough same = absurd (omega (arith, enough))
    by (suc most) enough same = record {
      most = most;
      enough = omega (arith, enough, shorter);
      same = same ∙ rw (has, is, after_opening) refl;
    }

pub none-of : {A : Type 0} (found : Option A) → is_some found ≡ false → found ≡ None
none-of None is = refl
none-of (Some x) is = absurd (true≢false is)
