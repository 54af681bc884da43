-- A rule that adds attributes: its result for a text that is written in sound pieces.
use Rattle.std.proofs.Common.{◌≡◌, ℕ, Bool, true, List, sym, ap, ◌∙◌, subst, codes}
use Rattle.std.specs.List.{list_all}
use Rattle.md_text.specs.Html.{Attribute}
use Rattle.md_text.specs.Url.{link_protocols, image_protocols}
use Rattle.md_safe.specs.Input.{with_line_feeds}
use Rattle.md_safe.specs.Token.{Token, TokenAttribute}
use Rattle.md_safe.specs.TokenizerStates.{Data}
use Rattle.md_safe.specs.Tokenizer.{IsTokenized}
use Rattle.md_safe.specs.SafeTokens.{is_permitted, has_safe_links, has_safe_images}
use Rattle.md_safe.proofs.OneRun.{one_run}
use Rattle.md_page.specs.Added.{with_attribute, added}
use Rattle.md_page.specs.Attributed.{IsAttributed, is_listed_beside}
use Rattle.md_page.specs.Pieces.{Piece, all_written, all_tokens, IsWritten}
use Rattle.md_page.specs.Scan.{with_new}
use Rattle.md_page.proofs.PieceRuns.{pieces-run}
use Rattle.md_page.proofs.Tags.{PicksBy}
use Rattle.md_page.proofs.Adding.{MayAdd, seen_new, changed, added-all, passes-more}
use Rattle.md_page.proofs.Adding.{is_addition_to, listed-more}
use Rattle.md_page.proofs.Scanning.{AreChanged, changed-pieces}

-- which tags get which attribute, by their bytes and by their tokens
pub record IsRule (picks : List ℕ → Bool) (test : Token → Bool) (new : ℕ → Attribute)
    (attribute : ℕ → TokenAttribute) : Type 0 where
  pub picks_by : PicksBy picks test
  pub may_add : MayAdd test new
  pub seen_so : (n : ℕ) → seen_new new n ≡ attribute n
  pub listed : (n : ℕ) (t : Token) → test t ≡ true → is_addition_to t (seen_new new n) ≡ true
  pub links : (n : ℕ) → is_permitted (codes "href") link_protocols (seen_new new n) ≡ true
  pub images : (n : ℕ) → is_permitted (codes "src") image_protocols (seen_new new n) ≡ true

unfoldable pub attributed : (text : List ℕ) → IsWritten text → IsAttributed text
attributed text w =
    let runs : IsTokenized text (all_tokens w.pieces) =
    subst (λ t. IsTokenized t (all_tokens w.pieces)) w.written_so (pieces-run w.pieces w.sound) in
    record {
      emits = all_tokens w.pieces;
      tokenized = runs;
      only = λ other h. one_run Data (with_line_feeds text) other (all_tokens w.pieces) h runs;
      listed = w.listed;
      safe_links = w.safe_links;
      safe_images = w.safe_images;
    }

-- with the additions of a rule a text stays written so, and has its tokens with these attributes
pub changes : {picks : List ℕ → Bool} {test : Token → Bool} {new : ℕ → Attribute}
    {attribute : ℕ → TokenAttribute} → IsRule picks test new attribute →
    (text : List ℕ) → IsWritten text → IsWritten (with_new picks new text)
    × ((x : List Token) → IsTokenized text x →
    IsTokenized (with_new picks new text) (added test attribute 0 x))
unfolding attributed
changes {picks} {test} {new} {attribute} rule text w = (
  record {
    pieces = after;
    sound = r.sound;
    written_so = written;
    listed = still is_listed_beside (λ n t passes. listed-more t (seen_new new n)
        (rule.listed n t passes)) w.listed;
    safe_links = still has_safe_links (λ n t passes. passes-more
        (is_permitted (codes "href") link_protocols) t (seen_new new n) (rule.links n))
        w.safe_links;
    safe_images = still has_safe_images (λ n t passes. passes-more
        (is_permitted (codes "src") image_protocols) t (seen_new new n) (rule.images n))
        w.safe_images;
  },
  λ x h. subst (λ t. IsTokenized t (added test attribute 0 x)) written
      (subst (IsTokenized (all_written after))
      (r.tokens ∙ ap (λ a. added test a 0 (all_tokens w.pieces)) same
      ∙ ap (added test attribute 0) (sym ((attributed text w).only x h)))
      (pieces-run after r.sound)),
)
  where
    after : List Piece
    after = changed test new 0 w.pieces

    r : AreChanged picks test new 0 w.pieces after
    r = changed-pieces rule.picks_by rule.may_add 0 w.pieces w.sound

    same : seen_new new ≡ attribute
    same = λ i n. rule.seen_so n i

    written : all_written after ≡ with_new picks new text
    written = sym r.written ∙ ap (with_new picks new) w.written_so

    -- what each token passes, and with one more attribute still does, all pass
    still : (p : Token → Bool) → ((n : ℕ) (t : Token) → test t ≡ true → p t ≡ true →
        p (with_attribute t (seen_new new n)) ≡ true) →
        list_all p (all_tokens w.pieces) ≡ true → list_all p (all_tokens after) ≡ true
    still p f h =
        subst (λ y. list_all p y ≡ true) (sym r.tokens)
        (added-all p test (seen_new new) 0 (all_tokens w.pieces) f h)
