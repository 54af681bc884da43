-- Options given by some of the lines, and bytes read as a text.
use Rattle.std.proofs.Common.{◌≡◌, ℕ, Bool, true, false, not, eqb, List, [], ◌∷◌, Option, Some}
use Rattle.std.proofs.Common.{None, Result, Ok, Err, IsUtf8, refl, sym, ap, ◌∙◌, inl, inr, arith}
use Rattle.std.specs.Prelude.{option_copied, option_and_then, find, filter, is_some}
use Rattle.std.specs.Prelude.{is_ok, MatchResult}
use Rattle.std.specs.Borrow.{Bor}
use Rattle.std.specs.List.{list_any}
use Rattle.std.specs.Result.{result_ok}
use Rattle.std.specs.Str.{is_utf8}
use Rattle.std.proofs.lemmas.Bool.{cases_Bool, and_parts, eqb-true}
use Rattle.std.proofs.lemmas.Str.{IsUtf8-from_is_utf8, is_utf8-from_IsUtf8}
use Rattle.md_base.specs.Place.{text_when}
use Rattle.md_base.specs.declared.event.Event.{Event}
use Rattle.md_base.proofs.SpaceLemmas.{chosen}
use Rattle.md_text.specs.declared.options.CompileOptions.{CompileOptions}
use Rattle.md_script.specs.Line.{event_of}
use Rattle.md_script.specs.Setting.{is_setting, option_name, is_name, is_given, text_given}
use Rattle.md_script.specs.Setting.{value_of, is_new, HasOptions}

-- ---- bytes as a text

pub reads_as_text :
    {E : Type 0} (bytes : List ℕ) (Fault : E → Type 0) (r : Result (Bor (List ℕ)) E) →
    MatchResult r (λ s. (s.now ≡ bytes) × IsUtf8 bytes) (λ e. (¬ IsUtf8 bytes) × Fault e) →
    is_ok r ≡ is_utf8 bytes
reads_as_text bytes Fault (Ok s) h = sym (is_utf8-from_IsUtf8 bytes h.1)
reads_as_text bytes Fault (Err e) h =
    elim (cases_Bool (is_utf8 bytes)) [
      | inl good ↦ absurd (h.0 (IsUtf8-from_is_utf8 bytes good))
      | inr bad ↦ sym bad
    ]

pub read_text : {E : Type 0} (bytes : List ℕ) (Fault : E → Type 0) (r : Result (Bor (List ℕ)) E) →
    MatchResult r (λ s. (s.now ≡ bytes) × IsUtf8 bytes) (λ e. (¬ IsUtf8 bytes) × Fault e) →
    option_copied (result_ok r) ≡ text_when true bytes
read_text bytes Fault (Ok s) h =
    ap Some h.0 ∙ sym (ap (chosen bytes) (is_utf8-from_IsUtf8 bytes h.1))
read_text bytes Fault (Err e) h = ap (chosen bytes) (reads_as_text bytes Fault (Err e) h)

-- ---- lines that begin with `!`; only these can set an option

abbrev pub is_marked : List ℕ → Bool
is_marked line = is_some (option_name line)

pub setting_is_marked : (line : List ℕ) → is_setting line ≡ true → is_marked line ≡ true
setting_is_marked [] h = cc
setting_is_marked (sign ∷ rest) h = rw (and_parts (eqb sign 33) _ h).0 refl

pub event_is_unmarked : (line : List ℕ) (event : Event) → Some event ≡ event_of line →
    is_marked line ≡ false
event_is_unmarked [] event e = cc
event_is_unmarked (sign ∷ rest) event e = grind (arith, eqb-true)

module _ {A : Type 0} (p q : A → Bool) (outside : (x : A) → q x ≡ false → p x ≡ false) where
  pub any-filter : (lines : List A) → list_any p (filter q lines) ≡ list_any p lines
  any-filter [] = refl
  any-filter (line ∷ lines) =
      let later = any-filter lines in
      let out = outside line in grind (arith, later, out)

  pub find-filter : (lines : List A) → find p (filter q lines) ≡ find p lines
  find-filter [] = refl
  find-filter (line ∷ lines) =
      let later = find-filter lines in
      let out = outside line in grind (arith, later, out)

names_nothing : (name : List ℕ) (option : Option (List ℕ)) → is_some option ≡ false →
    is_name name option ≡ false
names_nothing name None h = refl
names_nothing name (Some other) h = cc

given_by_marked : (lines : List (List ℕ)) (name : List ℕ) →
    is_given (filter is_marked lines) name ≡ is_given lines name
given_by_marked lines name = any-filter (λ line. is_name name (option_name line)) is_marked
    (λ line h. names_nothing name (option_name line) h) lines

text_by_marked : (lines : List (List ℕ)) (name : List ℕ) →
    text_given (filter is_marked lines) name ≡ text_given lines name
text_by_marked lines name = ap (option_and_then value_of)
    (find-filter (λ line. is_name name (option_name line)) is_marked
    (λ line h. names_nothing name (option_name line) h) lines)

pub new_by_marked : (lines : List (List ℕ)) (option : Option (List ℕ)) →
    is_new (filter is_marked lines) option ≡ is_new lines option
new_by_marked lines None = refl
new_by_marked lines (Some name) = ap not (given_by_marked lines name)

pub options_by_marked : (lines : List (List ℕ)) (options : CompileOptions) →
    HasOptions (filter is_marked lines) options → HasOptions lines options
options_by_marked lines options h = grind (arith, given_by_marked, text_by_marked)
