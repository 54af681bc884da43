-- The page around a title and a safe text.
use Rattle.std.proofs.Common.{◌≡◌, ℕ, true, List, [], ◌∷◌, refl, ap, ◌∙◌, arith}
use Rattle.std.proofs.lemmas.Bool.{and_from}
use Rattle.std.proofs.lemmas.List.{append-nil}
use Rattle.md_text.specs.Encode.{encoded}
use Rattle.md_text.specs.References.{is_escaped, read_back}
use Rattle.md_text.specs.Html.{Forest, Empty, Text, written}
use Rattle.md_text.proofs.EncodeLaws.{is_escaped-encoded, read_back-encoded}
use Rattle.md_safe.specs.PageTokens.{IsTokenizedPage}
use Rattle.md_safe.proofs.PageRuns.{page-tokenized}
use Rattle.md_safe.specs.Built.{IsBuiltAsRead}
use Rattle.md_safe.specs.Page.{IsBuiltPage}
use Rattle.md_safe.proofs.TreeSteps.{seen-characters}
use Rattle.md_safe.proofs.Pages.{text-page-built}
use Rattle.md_html.specs.Safe.{IsSafe}
use Rattle.md_page.specs.Added.{shown}
use Rattle.md_page.specs.Page.{is_title, IsPage, IsPageOf, page_text}
use Rattle.md_page.proofs.LinkRule.{seen-encoded}
use Rattle.md_page.proofs.Pages.{page_written, one_page}

-- a text as a title
abbrev titled_by : List ℕ → Forest
titled_by [] = Empty
titled_by (b ∷ rest) = Text (b ∷ rest) Empty

titled_by-written : (text : List ℕ) → written (titled_by text) ≡ text
titled_by-written [] = refl
titled_by-written (b ∷ rest) = append-nil (b ∷ rest)

titled_by-title : (text : List ℕ) → is_escaped text ≡ true → is_title (titled_by text) ≡ true
titled_by-title [] e = refl
titled_by-title (b ∷ rest) e = and_from _ _ (and_from _ _ e refl) refl

pub page_given : (title body text : List ℕ) → text ≡ page_text title body → IsSafe body →
    IsPageOf title body text
page_given title body text e safe =
    let escaped = encoded true title in
    let head = titled_by escaped in
    let inside = safe.safe_links.forest in
    let page : IsPage text head inside = record {
      title_is_text = titled_by-title escaped (is_escaped-encoded title);
      body_in_grammar = safe.safe_links.reading.in_grammar;
      written_so = rw (e, page_written head inside, titled_by-written escaped)
          (rw safe.safe_links.reading.written_so refl);
    }
    in
    record {
      head = head;
      inside = inside;
      page = page;
      only = λ other_head other_inside other.
          one_page text other_head other_inside head inside other page;
      titled = ap read_back (titled_by-written escaped) ∙ read_back-encoded title;
      reading = safe.safe_links.reading;
      safe_links = safe.safe_links.passes;
      safe_images = grind arith;
    }

-- the same in the Standard's words
pub page_emitted : (title body text : List ℕ) → text ≡ page_text title body → IsSafe body →
    IsTokenizedPage (shown title) body text
page_emitted title body text e safe =
    let escaped = encoded true title in
    rw (e, ← seen-encoded title)
    (page-tokenized escaped body (is_escaped-encoded title) safe.safe_links safe.safe_images)

-- and the document is built of it, where the body's text is built as it is read
pub page_constructed : (title body text : List ℕ) → text ≡ page_text title body → IsSafe body →
    IsBuiltAsRead body →
    IsBuiltPage (shown title) body text
page_constructed title body text e safe built =
    grind (
      arith,
      page_emitted title body text e safe,
      text-page-built (shown title) body,
      seen-encoded title,
      seen-characters,
      is_escaped-encoded title,
    )
