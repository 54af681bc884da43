-- What line feeds for line ends leave as it is.
use Rattle.std.proofs.Common.{◌≡◌, ℕ, ◌==◌, Bool, true, false, not, cond, List, [], ◌∷◌, ◌++◌, refl}
use Rattle.std.proofs.Common.{arith}
use Rattle.std.specs.List.{list_all}
use Rattle.md_text.specs.References.{is_escaped}
use Rattle.md_safe.specs.Input.{begins_with_line_feed, with_line_feeds}
use Rattle.md_safe.proofs.EscapedCases.{by_escaped}

-- no CR
abbrev pub no_return : ℕ → Bool
no_return b = not (b == 13)

-- one byte before what follows it
abbrev pub one : ℕ → Bool → List ℕ → List ℕ
one b feed later = cond (b == 13) (cond feed later (10 ∷ later)) (b ∷ later)

pub one-append : (b : ℕ) (feed : Bool) (x r : List ℕ) → one b feed (x ++ r) ≡ one b feed x ++ r
one-append b feed x r = grind arith

-- a text, and what follows it and doesn't begin with LF
pub line_feeds-append : (x r : List ℕ) → begins_with_line_feed r ≡ false →
    with_line_feeds (x ++ r) ≡ with_line_feeds x ++ with_line_feeds r
line_feeds-append [] r h = refl
line_feeds-append (b ∷ x) r h = grind (arith, one-append, line_feeds-append x r h)

-- a name has no CR
pub line_feeds-name : (name r : List ℕ) → list_all no_return name ≡ true →
    with_line_feeds (name ++ r) ≡ name ++ with_line_feeds r
line_feeds-name [] r h = refl
line_feeds-name (b ∷ name) r h = grind (arith, line_feeds-name name r)

-- an escaped text stays escaped
pub line_feeds-escaped : (x : List ℕ) → is_escaped x ≡ true → is_escaped (with_line_feeds x) ≡ true
line_feeds-escaped x h = by_escaped (λ x. is_escaped (with_line_feeds x) ≡ true) refl (grind arith)
    (λ rest later. later) (λ rest later. later) (λ rest later. later) (λ rest later. later) x h
