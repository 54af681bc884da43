-- A text with a plus sign before it is no number, and of any other std's reader of numbers says
-- what the definition says. The search knows neither without the lemmas on digits.
use Rattle.std.proofs.Common.{◌≡◌, ◌≢◌, ℕ, Bool, true, false, not, ◌&&◌, ◌^◌, eqb, nat_lt, cond}
use Rattle.std.proofs.Common.{List, [], ◌∷◌, length, get_or, Some, None, Result, Ok, Err, is_ok}
use Rattle.std.proofs.Common.{sym, ◌∙◌, subst, refl, lit<, arith}
use Rattle.std.specs.Char.{digit_value}
use Rattle.std.specs.Str.Parse.{ParsesUnsigned, digits_value}
use Rattle.std.proofs.lemmas.Bool.{eqb-false, eqb-true}
use Rattle.md_tree.proofs.Common.{list_all}
use Rattle.md_base.specs.Reference.{is_number, character_of}
use Rattle.md_base.proofs.ReferenceLemmas.{numbered_ok, numbered_none}
use Rattle.md_tree.proofs.judge.broken.is_decimal.Goals as goal

is_some_of : (b : Bool) (x y : List ℕ) → Some y ≡ cond b (Some x) None → true ≡ b
is_some_of true x y e = refl
is_some_of false x y e = cc

is_none_of : (b : Bool) (x : List ℕ) → None ≡ cond b (Some x) None → false ≡ b
is_none_of true x e = cc
is_none_of false x e = refl

ok_number : {E : Type 0} (digits : List ℕ) (r : Result ℕ E) → get_or digits 0 0 ≢ 43 →
    ParsesUnsigned 32 10 digits r → is_ok r ≡ is_number 10 digits
ok_number {E} digits (Ok n) no_plus parsed =
    is_some_of (is_number 10 digits) (character_of (digits_value 10 digits)) (character_of n)
    (numbered_ok {E = E} 10 digits (Ok n) n no_plus parsed refl)
ok_number {E} digits (Err e) no_plus parsed =
    is_none_of (is_number 10 digits) (character_of (digits_value 10 digits))
    (numbered_none {E = E} 10 digits (Err e) no_plus parsed refl)

none_here : (a b c : Bool) → ((a && (false && b)) && c) ≡ false
none_here true b c = refl
none_here false b c = refl

plus_number : (digits : List ℕ) → get_or digits 0 0 ≡ 43 → false ≡ is_number 10 digits
plus_number [] e = absurd (omega arith)
plus_number (b ∷ digits) e =
    subst (λ x. false ≡ is_number 10 (x ∷ digits)) (sym e)
    (sym (none_here (not (eqb (length (43 ∷ digits)) 0))
    (list_all (λ digit. nat_lt (digit_value digit) 10) digits)
    (nat_lt (digits_value 10 (43 ∷ digits)) (2 ^ 32))))

pub returns-then-starts_with : goal.returns-then-starts_with
returns-then-starts_with c =
    plus_number c.args.text.now (eqb-true (get_or c.args.text.now 0 0) 43
    (sym (c.if-starts_with.ensures.byte (lit< tt) (lit< tt) (λ _ _ found. found))))

pub returns : goal.returns
returns c =
    let no_plus = eqb-false (get_or c.args.text.now 0 0) 43
    (sym (c.if-starts_with.ensures.byte (lit< tt) (lit< tt) (λ _ _ found. found))) in
    c.is_ok.ensures.value
    ∙ ok_number c.args.text.now c.from_str_radix.result no_plus c.from_str_radix.ensures.value
