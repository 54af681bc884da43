-- A number in decimal digits, as it is written and seen.
use Rattle.std.proofs.Common.{◌≡◌, ℕ, ◌==◌, Bool, true, false, not, ◌&&◌}
use Rattle.std.proofs.Common.{List, [], ◌∷◌, ◌++◌, refl, arith, append-nil}
use Rattle.std.specs.Fmt.{decimal}
use Rattle.std.specs.List.{list_all}
use Rattle.std.proofs.lemmas.Bool.{and_parts, eqb-false}
use Rattle.std.proofs.lemmas.Bool.Decides.{nat_tests}
use Rattle.md_content.specs.Built.{is_digit}
use Rattle.md_text.specs.Encode.{encoded}
use Rattle.md_text.specs.References.{is_escaped, read_back}
use Rattle.md_text.proofs.EncodeLaws.{read_back-other, read_back-before, is_escaped-encoded}
use Rattle.md_text.proofs.EscapedLemmas.{escaped-append}
use Rattle.md_safe.specs.Input.{begins_with_line_feed}
use Rattle.md_safe.specs.Tokens.{seen}
use Rattle.md_safe.proofs.Cases.{all-weaker}
use Rattle.md_safe.proofs.EscapedCases.{IsPlain}
use Rattle.md_safe.proofs.LineFeeds.{no_return, line_feeds-append, line_feeds-name}
use Rattle.md_safe.proofs.Schemes.{seen-is}
use Rattle.md_safe.proofs.Texts.{decimal-digits, decimal-escaped}
use Rattle.md_page.specs.Added.{shown}

-- a digit represents itself
abbrev pub is_itself : ℕ → Bool
is_itself b = not (b == 0) && (not (b == 38) && (not (b == 34) && (not (b == 60) && (not (b == 62)
    && (not (b == 13) && not (b == 10))))))

digit-itself : (b : ℕ) → is_digit b ≡ true → is_itself b ≡ true
digit-itself b h = grind (arith, nat_tests)

pub decimal-itself : (n : ℕ) → list_all is_itself (decimal n) ≡ true
decimal-itself n = all-weaker is_digit is_itself digit-itself (decimal n) (decimal-digits n)

pub record IsItself (b : ℕ) : Type 0 where
  pub plain : IsPlain b
  pub no_return : (b == 13) ≡ false
  pub no_feed : (b == 10) ≡ false

pub itself_parts : (b : ℕ) → is_itself b ≡ true → IsItself b
itself_parts b h = grind arith

itself-back : (x : List ℕ) → list_all is_itself x ≡ true → read_back x ≡ x
itself-back [] h = refl
itself-back (b ∷ x) h = grind (arith, read_back-other, eqb-false, itself_parts, itself-back x)

pub itself-returns : (x : List ℕ) → list_all is_itself x ≡ true → list_all no_return x ≡ true
itself-returns x h = grind (arith, all-weaker)

itself-begins : (x : List ℕ) → list_all is_itself x ≡ true → begins_with_line_feed x ≡ false
itself-begins [] h = refl
itself-begins (b ∷ x) h = (itself_parts b (and_parts (is_itself b) _ h).0).no_feed

-- an escaped text and a number
pub numbered-escaped : (prefix : List ℕ) (n : ℕ) →
    is_escaped (encoded true prefix ++ decimal n) ≡ true
numbered-escaped prefix n = grind (arith, escaped-append, is_escaped-encoded, decimal-escaped)

pub numbered-seen : (prefix : List ℕ) (n : ℕ) →
    seen (encoded true prefix ++ decimal n) ≡ shown prefix ++ decimal n
numbered-seen prefix n =
    let h = decimal-itself n in
    let digits = decimal n in
    rw (seen-is (encoded true prefix ++ digits) (numbered-escaped prefix n))
    (rw (read_back-before prefix digits, itself-back digits h)
    (rw (line_feeds-append (encoded false prefix) digits (itself-begins digits h))
    (rw (simp append-nil at (line_feeds-name digits [] (itself-returns digits h))) refl)))
