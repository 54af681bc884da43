-- A text with one reading is tokenized as that, and a safe one has safe tokens.
use Rattle.std.proofs.Common.{◌≡◌, ℕ, Bool, true, List, [], ◌∷◌, ◌++◌}
use Rattle.std.specs.List.{list_all}
use Rattle.md_text.specs.Html.{Attribute, HasOneReadingWith}
use Rattle.md_text.specs.Safe.{is_safe_link, is_safe_image}
use Rattle.md_safe.specs.Input.{with_line_feeds}
use Rattle.md_safe.specs.Token.{Token, EndOfFile}
use Rattle.md_safe.specs.TokenizerStates.{Data}
use Rattle.md_safe.specs.Tokenizer.{IsTokenized}
use Rattle.md_safe.specs.Tokens.{tokens}
use Rattle.md_safe.specs.SafeTokens.{has_safe_links, has_safe_images}
use Rattle.md_safe.specs.Tokenized.{HasTokensWith, IsTokenizedAsRead, IsSafelyTokenized}
use Rattle.md_safe.proofs.OneRun.{one_run}
use Rattle.md_safe.proofs.Between.{reading-runs}
use Rattle.md_safe.proofs.TokenTests.{forest-listed}
use Rattle.md_safe.proofs.SafeTokens.{safe-links, safe-images}

-- the tokens of a text are these
only-these : (text : List ℕ) (x other : List Token) → IsTokenized text x →
    IsTokenized text other → other ≡ x
only-these text x other h k = one_run Data (with_line_feeds text) other x k h

pub read-tokenized : (q : Attribute → Bool) (text : List ℕ) → HasOneReadingWith q text →
    IsTokenizedAsRead text
read-tokenized q text one =
    let h = reading-runs q text one in
    record {
      forest = one.forest;
      reading = one.reading;
      tokenized = h;
      only = λ other. only-these text (tokens one.forest ++ (EndOfFile ∷ [])) other h;
      listed = forest-listed one.forest one.reading.in_grammar;
    }

-- if each token passes a test, whatever the tokens are
tokens-with :
    (p : Token → Bool) (q : Attribute → Bool) (text : List ℕ) (one : HasOneReadingWith q text) →
    ((x : List Token) → IsTokenized text x → list_all p x ≡ true) → HasTokensWith p text
tokens-with p q text one f =
    let h = reading-runs q text one in
    record {
      emits = tokens one.forest ++ (EndOfFile ∷ []);
      tokenized = h;
      only = λ other. only-these text (tokens one.forest ++ (EndOfFile ∷ [])) other h;
      passes = f (tokens one.forest ++ (EndOfFile ∷ [])) h;
    }

pub link-tokens : (text : List ℕ) → HasOneReadingWith is_safe_link text →
    HasTokensWith has_safe_links text
link-tokens text one = tokens-with has_safe_links is_safe_link text one (λ x. safe-links text x one)

pub image-tokens : (text : List ℕ) → HasOneReadingWith is_safe_image text →
    HasTokensWith has_safe_images text
image-tokens text one =
    tokens-with has_safe_images is_safe_image text one (λ x. safe-images text x one)

pub safely-tokenized : (text : List ℕ) → HasOneReadingWith is_safe_link text →
    HasOneReadingWith is_safe_image text → IsSafelyTokenized text
safely-tokenized text links images = record {
  as_read = read-tokenized _ _ links;
  safe_links = link-tokens _ links;
  safe_images = image-tokens _ images;
}
