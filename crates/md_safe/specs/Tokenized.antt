-- The promises of the calls about a text, in the Standard's terms.
use Rattle.std.specs.Prelude.{◌≡◌, ℕ, Bool, IsTrue, List, [], ◌∷◌, ◌++◌}
use Rattle.std.specs.List.{list_all}
use Rattle.md_text.specs.Html.{Forest, IsReading}
use Rattle.md_safe.specs.Token.{Token, EndOfFile}
use Rattle.md_safe.specs.Tokenizer.{IsTokenized}
use Rattle.md_safe.specs.Tokens.{tokens, is_listed}
use Rattle.md_safe.specs.SafeTokens.{has_safe_links, has_safe_images}

-- the tokenizer emits exactly these tokens for the text, and each of them passes the test
pub record HasTokensWith (p : Token → Bool) (text : List ℕ) : Type 0 where
  pub emits : List Token
  pub tokenized : IsTokenized text emits
  pub only : (other : List Token) → IsTokenized text other → other ≡ emits
  pub passes : IsTrue (list_all p emits)

-- for a text that has a reading the tokenizer emits exactly the tokens of that reading and the end
-- of file, and each tag among them is in the grammar's tables, with only attributes that the tables
-- list for it
pub record IsTokenizedAsRead (text : List ℕ) : Type 0 where
  pub forest : Forest
  pub reading : IsReading text forest
  pub tokenized : IsTokenized text (tokens forest ++ (EndOfFile ∷ []))
  pub only : (other : List Token) → IsTokenized text other →
      other ≡ tokens forest ++ (EndOfFile ∷ [])
  pub listed : IsTrue (list_all is_listed (tokens forest))

-- besides, each `href` and each `src` among the tokens has no scheme of its own or a permitted one
pub record IsSafelyTokenized (text : List ℕ) : Type 0 where
  pub as_read : IsTokenizedAsRead text
  pub safe_links : HasTokensWith has_safe_links text
  pub safe_images : HasTokensWith has_safe_images text
