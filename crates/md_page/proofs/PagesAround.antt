-- A page around a text that is built as it is written is built with that text's forest.
use Rattle.std.proofs.Common.{◌≡◌, ℕ, true, List, [], ◌∷◌, ◌++◌, map, refl, ap, subst, append_assoc}
use Rattle.std.proofs.Common.{codes}
use Rattle.md_text.specs.Encode.{encoded}
use Rattle.md_text.specs.Html.{Forest, Empty, Text, Void, Element}
use Rattle.md_text.proofs.EncodeLaws.{is_escaped-encoded}
use Rattle.md_safe.specs.Token.{Token, Doctype, Character, StartTag, EndTag, EndOfFile}
use Rattle.md_safe.specs.Tokenizer.{IsTokenized}
use Rattle.md_safe.specs.Tokens.{tokens, seen}
use Rattle.md_safe.specs.PageTokens.{charset, page_text, plain_tag}
use Rattle.md_safe.specs.Node.{InBody, Empty as NoNode}
use Rattle.md_safe.proofs.Pages.{body-place, page-built, body_at, root_at}
use Rattle.md_safe.proofs.TreeSteps.{seen-characters}
use Rattle.md_page.specs.Added.{shown}
use Rattle.md_page.specs.Built.{IsBuiltAsWritten, IsBuiltPageAround}
use Rattle.md_page.specs.PageAround.{going_on, after_body}
use Rattle.md_page.specs.Pieces.{IsWritten}
use Rattle.md_page.proofs.LinkRule.{seen-encoded}
use Rattle.md_page.proofs.PieceRuns.{characters-on}
use Rattle.md_page.proofs.Paging.{page-emitted}

-- a forest's tokens are no end of file
on-forest : (f : Forest) (x after : List Token) →
    going_on (tokens f ++ x) after ≡ tokens f ++ going_on x after
on-forest Empty x after = refl
on-forest (Text bytes rest) x after =
    simp (append_assoc, characters-on (seen bytes) (tokens rest ++ x) after, on-forest rest x after)
on-forest (Void name attributes rest) x after = rw (on-forest rest x after) refl
on-forest (Element name attributes inner rest) x after =
    rw (append_assoc (tokens inner) (EndTag name ∷ tokens rest) x)
    (rw (on-forest inner (EndTag name ∷ (tokens rest ++ x)) after, on-forest rest x after)
    (simp append_assoc))

-- a page whose body has these tokens, and what follows them
abbrev around_body : List ℕ → List Token → List Token
around_body title body =
    Doctype (codes "html") ∷ Character 10 ∷ plain_tag (codes "html") ∷ plain_tag (codes "head")
    ∷ StartTag (codes "meta") (charset ∷ []) true ∷ plain_tag (codes "title") ∷ (map Character title
    ++ (EndTag (codes "title") ∷ EndTag (codes "head") ∷ plain_tag (codes "body") ∷ body))

pub page-around-built : (title body : List ℕ) → IsWritten body → IsBuiltAsWritten body →
    IsBuiltPageAround (shown title) body (page_text (encoded true title) body)
page-around-built title body w b =
    let f = b.forest in
    let text = page_text (encoded true title) body in
    let escaped = encoded true title in
    record {
      inside = f;
      written_so = b.written_so;
      tokenized = subst (IsTokenized text)
          (ap (around_body (shown title)) (on-forest f (EndOfFile ∷ []) after_body))
          (page-emitted title body w (tokens f ++ (EndOfFile ∷ [])) b.tokenized).tokenized;
      built = page-built (shown title) f
          (rw (← seen-encoded title) (seen-characters escaped (is_escaped-encoded title)))
          (b.builds InBody (body_at NoNode) (root_at (shown title) ∷ []) [] 5
          (body-place (shown title)));
    }
