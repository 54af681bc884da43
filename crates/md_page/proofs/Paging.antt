-- A page: its fixed parts step by step, its title in the RCDATA state, and its body by its pieces.
use Rattle.std.proofs.Common.{◌≡◌, ℕ, Bool, true, List, [], ◌∷◌, map, refl, sym, ap₂, subst}
use Rattle.std.proofs.Common.{codes}
use Rattle.std.specs.List.{list_all}
use Rattle.std.proofs.lemmas.Bool.{and_parts, and_from}
use Rattle.md_text.specs.Encode.{encoded}
use Rattle.md_text.specs.References.{is_escaped}
use Rattle.md_text.specs.Safe.{is_safe_link, is_safe_image}
use Rattle.md_text.proofs.EncodeLaws.{is_escaped-encoded}
use Rattle.md_safe.specs.Input.{with_line_feeds}
use Rattle.md_safe.specs.Token.{Token, Character, EndTag, EndOfFile}
use Rattle.md_safe.specs.TokenizerStates.{Data}
use Rattle.md_safe.specs.Tokenizer.{IsTokenized}
use Rattle.md_safe.specs.Tokens.{seen}
use Rattle.md_safe.specs.PageTokens.{page_text, plain_tag}
use Rattle.md_safe.specs.SafeTokens.{has_safe_links, has_safe_images}
use Rattle.md_safe.proofs.OneRun.{one_run}
use Rattle.md_safe.proofs.TokenTests.{all-append, all-characters}
use Rattle.md_safe.proofs.SafeTokens.{links-pass, images-pass}
use Rattle.md_safe.proofs.PageRuns.{page-around, page_ends}
use Rattle.md_page.specs.Added.{shown}
use Rattle.md_page.specs.PageAround.{after_body, going_on, page_around, IsSafePage}
use Rattle.md_page.specs.Pieces.{Piece, all_written, all_tokens, are_sound, IsWritten}
use Rattle.md_page.proofs.PieceRuns.{pieces-before}
use Rattle.md_page.proofs.Rules.{attributed}
use Rattle.md_page.proofs.LinkRule.{seen-encoded}

page-runs : (title : List ℕ) (x : List Piece) → is_escaped title ≡ true → are_sound x ≡ true →
    IsTokenized (page_text title (all_written x)) (page_around (seen title) (all_tokens x))
page-runs title x e h =
    page-around title (all_written x) (going_on (all_tokens x) after_body) e
    (pieces-before x (codes "</body></html>\n") after_body h refl page_ends)

-- ---- safe tokens

on-all : (p : Token → Bool) (x after : List Token) → list_all p x ≡ true → list_all p after ≡ true →
    list_all p (going_on x after) ≡ true
on-all p [] after h k = refl
on-all p (EndOfFile ∷ x) after h k = k
on-all p (t ∷ x) after h k =
    let q = and_parts (p t) (list_all p x) h in
    and_from _ _ q.0 (on-all p x after q.1 k)

abbrev after_title : List Token → List Token
after_title body =
    EndTag (codes "title") ∷ EndTag (codes "head") ∷ plain_tag (codes "body")
    ∷ going_on body after_body

pub page-emitted : (title body : List ℕ) → IsWritten body → (x : List Token) → IsTokenized body x →
    IsSafePage (page_text (encoded true title) body) (page_around (shown title) x)
unfolding attributed
page-emitted title body w x h =
    let text = page_text (encoded true title) body in
    let emits = page_around (shown title) x in
    let same : x ≡ all_tokens w.pieces = (attributed body w).only x h in
    let runs : IsTokenized text emits =
    subst (λ b. IsTokenized (page_text (encoded true title) b) emits) w.written_so
    (subst (IsTokenized (page_text (encoded true title) (all_written w.pieces)))
    (ap₂ page_around (seen-encoded title) (sym same))
    (page-runs (encoded true title) w.pieces (is_escaped-encoded title) w.sound)) in
    record {
      tokenized = runs;
      only = λ other k. one_run Data (with_line_feeds text) other emits k runs;
      safe_links =
          all-append has_safe_links (map Character (shown title)) (after_title x)
          (all-characters has_safe_links links-pass.characters (shown title))
          (on-all has_safe_links x after_body
          (subst (λ y. list_all has_safe_links y ≡ true) (sym same) w.safe_links) refl);
      safe_images =
          all-append has_safe_images (map Character (shown title)) (after_title x)
          (all-characters has_safe_images images-pass.characters (shown title))
          (on-all has_safe_images x after_body
          (subst (λ y. list_all has_safe_images y ≡ true) (sym same) w.safe_images) refl);
    }
