-- A page: its fixed parts step by step, its title in the RCDATA state, and its body by its forest.
use Rattle.std.proofs.Common.{arith, map, ◌≡◌, ℕ, true, List, [], ◌∷◌, ◌++◌, refl, codes}
use Rattle.std.specs.List.{list_all}
use Rattle.md_text.specs.References.{is_escaped}
use Rattle.md_text.specs.Html.{Forest, is_forest, written, all_attributes, HasOneReadingWith}
use Rattle.md_text.specs.Safe.{is_safe_link, is_safe_image}
use Rattle.md_safe.specs.Input.{with_line_feeds}
use Rattle.md_safe.specs.Token.{Token, Doctype, Character, StartTag, EndTag}
use Rattle.md_safe.specs.TokenizerStates.{Data, Rcdata}
use Rattle.md_safe.specs.Tokenizer.{IsTokenized}
use Rattle.md_safe.specs.Tokens.{seen, tokens}
use Rattle.md_safe.specs.PageTokens.{charset, page_text, page_tokens, plain_tag, IsTokenizedPage}
use Rattle.md_safe.specs.PageTokens.{after_body}
use Rattle.md_safe.specs.SafeTokens.{has_safe_links, has_safe_images}
use Rattle.md_safe.proofs.LineFeeds.{line_feeds-append, line_feeds-escaped}
use Rattle.md_safe.proofs.Steps.{rcdata-runs}
use Rattle.md_safe.proofs.Joining.{runs-by}
use Rattle.md_safe.proofs.Between.{in_place}
use Rattle.md_safe.proofs.OneRun.{one_run}
use Rattle.md_safe.proofs.TokenTests.{all-append, all-characters, all-tokens}
use Rattle.md_safe.proofs.SafeTokens.{links-pass, images-pass}

-- what comes after the body
pub page_ends : IsTokenized (codes "</body></html>\n") after_body
page_ends = record { steps = 19; emits = refl }

-- the fixed parts and the title around a body, whose tokens and those after it are known
pub page-around : (title body : List ℕ) (after : List Token) → is_escaped title ≡ true →
    IsTokenized (body ++ codes "</body></html>\n") after →
    IsTokenized (page_text title body) (Doctype (codes "html") ∷ Character 10
    ∷ plain_tag (codes "html") ∷ plain_tag (codes "head")
    ∷ StartTag (codes "meta") (charset ∷ []) true ∷ plain_tag (codes "title")
    ∷ (map Character (seen title)
    ++ (EndTag (codes "title") ∷ EndTag (codes "head") ∷ plain_tag (codes "body") ∷ after)))
page-around title body after e inside =
    let rest = codes "</title></head><body>" ++ (body ++ codes "</body></html>\n") in
    let titled = rcdata-runs (with_line_feeds title) (line_feeds-escaped title e)
    (with_line_feeds rest) _ (runs-by 24 Rcdata Data _ _ (EndTag (codes "title") ∷ EndTag
    (codes "head") ∷ plain_tag (codes "body") ∷ []) after refl inside) in
    runs-by 59 Data Rcdata _ (with_line_feeds (title ++ rest)) (Doctype (codes "html")
    ∷ Character 10 ∷ plain_tag (codes "html") ∷ plain_tag (codes "head") ∷ StartTag
    (codes "meta") (charset ∷ []) true ∷ plain_tag (codes "title") ∷ []) _ refl
    (rw (line_feeds-append title rest refl) titled)

pub page-runs : (title : List ℕ) (body : Forest) → is_escaped title ≡ true → is_forest body ≡ true →
    IsTokenized (page_text title (written body)) (page_tokens (seen title) body)
page-runs title body e h = page-around title (written body) (tokens body ++ after_body) e
    (in_place body (codes "</body></html>\n") after_body h refl page_ends)

-- ---- a safe body

abbrev after_title : Forest → List Token
after_title body =
    EndTag (codes "title") ∷ EndTag (codes "head") ∷ plain_tag (codes "body")
    ∷ (tokens body ++ after_body)

page-links : (title : List ℕ) (body : Forest) → is_forest body ≡ true →
    all_attributes is_safe_link body ≡ true →
    list_all has_safe_links (page_tokens title body) ≡ true
page-links title body h k =
    all-append has_safe_links (map Character title) (after_title body)
    (all-characters has_safe_links links-pass.characters title)
    (grind (arith, all-append, all-tokens, links-pass))

page-images : (title : List ℕ) (body : Forest) → is_forest body ≡ true →
    all_attributes is_safe_image body ≡ true →
    list_all has_safe_images (page_tokens title body) ≡ true
page-images title body h k =
    all-append has_safe_images (map Character title) (after_title body)
    (all-characters has_safe_images images-pass.characters title)
    (grind (arith, all-append, all-tokens, images-pass))

pub page-tokenized : (title body : List ℕ) → is_escaped title ≡ true →
    HasOneReadingWith is_safe_link body →
    HasOneReadingWith is_safe_image body → IsTokenizedPage (seen title) body (page_text title body)
page-tokenized title body e links images =
    let inside = links.forest in
    let text = page_text title body in
    let emits = page_tokens (seen title) inside in
    let runs : IsTokenized text emits = grind (arith, page-runs) in
    record {
      inside = inside;
      reading = links.reading;
      tokenized = runs;
      only = λ other h. one_run Data (with_line_feeds text) other emits h runs;
      safe_links = page-links (seen title) inside links.reading.in_grammar links.passes;
      safe_images = grind (arith, page-images);
    }
