-- Texts and the spaces, tabs and line endings that begin them.
use Rattle.std.proofs.Common.{◌≡◌, ◌+◌, ◌∙◌, ℕ, Bool, true, false, List, [], ◌∷◌, suc, drop, arith, ap, refl, sym}
use Rattle.std.proofs.Common.{inl, inr}
use Rattle.std.specs.Prelude.{nat_lt, ◌||◌, if◌then◌else◌}
use Rattle.std.specs.List.{prefix_len}
use Rattle.std.proofs.lemmas.Bool.{cases_Bool, lt-ltb}
use Rattle.md_lines.specs.Lines.{is_blank}
use Rattle.md_lines.specs.Texts.{is_none, unindented, begins_with_space, after_spaces}

-- a line without its blanks begins with none
pub idem : (line : List ℕ) → prefix_len is_blank (unindented line) ≡ 0
idem [] = refl
idem (byte ∷ line) = elim (cases_Bool (is_blank byte)) [
  | inl is ↦
      let one : 1 + prefix_len is_blank line ≡ suc (prefix_len is_blank line) = omega arith in
      ap (λ b. prefix_len is_blank (drop (if b then 1 + prefix_len is_blank line else 0) (byte ∷ line))) is
      ∙ ap (λ n. prefix_len is_blank (drop n (byte ∷ line))) one ∙ idem line
  | inr is_not ↦
      ap (λ b. prefix_len is_blank (drop (if b then 1 + prefix_len is_blank line else 0) (byte ∷ line))) is_not
      ∙ ap (λ b. if b then 1 + prefix_len is_blank line else 0) is_not
]

none_more : (line : List ℕ) → prefix_len is_blank line ≡ 0 → unindented line ≡ line
none_more line is = ap (λ n. drop n line) is

from_unindented : (line : List ℕ) (lines : List (List ℕ)) → unindented line ≡ line →
    is_none line ≡ false → line ∷ lines ≡ after_spaces (line ∷ lines)
from_unindented line [] same is = ap (λ x. x ∷ []) (sym same)
from_unindented line (next ∷ lines) same is = rw (same, is) refl

pub at_byte : (byte : ℕ) (text rest : List ℕ) (lines : List (List ℕ)) → text ≡ byte ∷ rest →
    prefix_len is_blank text ≡ 0 → text ∷ lines ≡ after_spaces (text ∷ lines)
at_byte byte text rest lines is none =
    from_unindented text lines (none_more text none) (ap is_none is)

again : (line : List ℕ) (lines : List (List ℕ)) →
    after_spaces (unindented line ∷ lines) ≡ after_spaces (line ∷ lines)
again line [] = ap (λ x. x ∷ []) (none_more (unindented line) (idem line))
again line (next ∷ lines) =
    ap (λ x. if is_none x then after_spaces (next ∷ lines) else x ∷ next ∷ lines)
    (none_more (unindented line) (idem line))

-- after a line's end, the spaces of the next one
pub past_end : (text m n : List ℕ) (lines ms ns : List (List ℕ)) → text ≡ [] → m ∷ ms ≡ lines →
    n ≡ unindented m → ns ≡ ms → after_spaces (n ∷ ns) ≡ after_spaces (text ∷ lines)
past_end text m n lines ms ns ended later skipped same =
    ap (λ x. after_spaces (x ∷ ns)) skipped ∙ ap (λ xs. after_spaces (unindented m ∷ xs)) same
    ∙ again m ms ∙ ap (λ xs. after_spaces ([] ∷ xs)) later
    ∙ ap (λ x. after_spaces (x ∷ lines)) (sym ended)

pub in_line : (text n : List ℕ) (lines ns : List (List ℕ)) → n ≡ unindented text → ns ≡ lines →
    after_spaces (n ∷ ns) ≡ after_spaces (text ∷ lines)
in_line text n lines ns skipped same =
    ap (λ x. after_spaces (x ∷ ns)) skipped ∙ ap (λ xs. after_spaces (unindented text ∷ xs)) same
    ∙ again text lines

-- at the end of all lines there are none
pub at_end : (text : List ℕ) (lines : List (List ℕ)) → text ≡ [] → lines ≡ [] →
    text ∷ lines ≡ after_spaces (text ∷ lines)
at_end text lines ended last =
    ap (λ t. t ∷ lines) ended ∙ ap (λ ls. [] ∷ ls) last
    ∙ sym (ap (λ t. after_spaces (t ∷ lines)) ended ∙ ap (λ ls. after_spaces ([] ∷ ls)) last)

pub none_at_end : (text : List ℕ) (lines : List (List ℕ)) → text ≡ [] → lines ≡ [] →
    begins_with_space (text ∷ lines) ≡ false
none_at_end text lines ended last =
    ap (λ t. begins_with_space (t ∷ lines)) ended ∙ ap (λ ls. begins_with_space ([] ∷ ls)) last

not_blank : (b : Bool) (n : ℕ) → (if b then 1 + n else 0) ≡ 0 → b ≡ false
not_blank true n is = absurd (omega (arith, is))
not_blank false n is = refl

pub none_at_byte : (byte : ℕ) (text rest : List ℕ) (lines : List (List ℕ)) → text ≡ byte ∷ rest →
    prefix_len is_blank text ≡ 0 → begins_with_space (text ∷ lines) ≡ false
none_at_byte byte text rest lines is none =
    ap (λ x. begins_with_space (x ∷ lines)) is
    ∙ not_blank (is_blank byte) (prefix_len is_blank rest) (sym (ap (prefix_len is_blank) is) ∙ none)

-- whether there was any so far
pub any_first : (text n : List ℕ) (lines ns : List (List ℕ)) → n ≡ unindented text → ns ≡ lines →
    (nat_lt 0 (prefix_len is_blank text) || begins_with_space (n ∷ ns))
    ≡ begins_with_space (text ∷ lines)
any_first text n lines ns skipped same =
    ap (λ x. nat_lt 0 (prefix_len is_blank text) || begins_with_space (x ∷ ns)) skipped
    ∙ ap (λ xs. nat_lt 0 (prefix_len is_blank text) || begins_with_space (unindented text ∷ xs)) same
    ∙ by_text text lines
  where
    begun : (n : ℕ) (b : Bool) → (nat_lt 0 (1 + n) || b) ≡ true
    begun n b = ap (λ x. x || b) (lt-ltb 0 (1 + n) (omega arith))

    by_text : (text : List ℕ) (lines : List (List ℕ)) →
        (nat_lt 0 (prefix_len is_blank text) || begins_with_space (unindented text ∷ lines))
        ≡ begins_with_space (text ∷ lines)
    by_text [] lines = refl
    by_text (byte ∷ rest) lines = elim (cases_Bool (is_blank byte)) [
      | inl is ↦ rw is (begun (prefix_len is_blank rest) _)
      | inr is_not ↦ rw is_not is_not
    ]

pub any_past_end : (has : Bool) (text m : List ℕ) (lines ms : List (List ℕ)) (whole : Bool) →
    text ≡ [] → m ∷ ms ≡ lines → (has || begins_with_space (text ∷ lines)) ≡ whole → true ≡ whole
any_past_end true text m lines ms whole ended later is = is
any_past_end false text m lines ms whole ended later is =
    ap (λ xs. begins_with_space ([] ∷ xs)) later
    ∙ ap (λ x. begins_with_space (x ∷ lines)) (sym ended) ∙ is

pub only : (has more whole : Bool) → (has || more) ≡ whole → more ≡ false → has ≡ whole
only true more whole is none = is
only false more whole is none = sym none ∙ is
