-- A text between two others, for the HTML Standard's tokenizer.
use Rattle.std.specs.Prelude.{◌≡◌, ℕ, Bool, false, ◌==◌, ◌&&◌, if◌then◌else◌, List, [], ◌∷◌, ◌++◌}
use Rattle.md_base.specs.Identifier.{is_nonempty}
use Rattle.md_safe.specs.Input.{begins_with_line_feed, with_line_feeds}
use Rattle.md_safe.specs.Token.{Token}
use Rattle.md_safe.specs.TokenizerStates.{Data}
use Rattle.md_safe.specs.Tokenizer.{IsTokenized}
use Rattle.md_safe.specs.Tokenizes.{Tokenizes}

-- from the data state, whatever characters follow the text: the tokenizer emits these tokens, and
-- is in the data state then, and exactly what follows remains of its input
abbrev pub EndsInDataState : List ℕ → List Token → Type 0
EndsInDataState text tokens =
    (after : List ℕ) → Tokenizes Data (with_line_feeds text ++ after) tokens after

-- a text ends with CR
abbrev pub ends_with_return : List ℕ → Bool
ends_with_return [] = false
ends_with_return (b ∷ rest) = if is_nonempty rest then ends_with_return rest else b == 13

-- CR LF, which is one newline (13.2.3.5), is split between a text and the next
abbrev pub splits_newline : List ℕ → List ℕ → Bool
splits_newline text after = ends_with_return text && begins_with_line_feed after

-- the emitted tokens are those of a text and then exactly those of what follows it alone
pub record HasTokensAfter (earlier : List Token) (after : List ℕ) (all : List Token) : Type 0 where
  pub later : List Token
  pub alone : IsTokenized after later
  pub together : all ≡ earlier ++ later
