-- The headings that the program collects, iteration by iteration, are their list.
use Rattle.std.proofs.Common.{◌≡◌, ℕ, ◌+◌, true, false, cond, List, [], ◌∷◌, ◌++◌, length, drop}
use Rattle.std.proofs.Common.{refl, sym, ap, ◌∙◌, append_assoc, append-nil, arith, add-one}
use Rattle.std.specs.List.{list_all}
use Rattle.std.proofs.lemmas.List.{drop_all}
use Rattle.md_safe.specs.Input.{with_line_feeds, begins_with_line_feed}
use Rattle.md_safe.proofs.LineFeeds.{line_feeds-name}
use Rattle.md_page.specs.Added.{Listed}
use Rattle.md_page.specs.Scan.{differs, past_angle, closes_heading, text_before, picks_heading}
use Rattle.md_page.specs.Scan.{scanned_heading, scanned_headings, clear, IsTagAt}
use Rattle.md_page.proofs.Passing.{clear-headings, drop-at}
use Rattle.md_page.proofs.HeadingTexts.{lined-step, text-run, text-closes, text-inside, text-opens}

-- a text without a carriage return
pub lined-all : (x : List ℕ) → list_all (differs 13) x ≡ true → with_line_feeds x ≡ x
lined-all x h = ap with_line_feeds (sym (append-nil x)) ∙ line_feeds-name x [] h ∙ append-nil x

-- a text outside tags without `<`
pub text-all : (digit : ℕ) (x : List ℕ) → list_all (differs 60) x ≡ true →
    text_before digit false x ≡ with_line_feeds x
text-all digit x h = simp append-nil at (text-run digit x [] h refl)

pub lined-turn : (out line after : List ℕ) {rest out' out'' whole : List ℕ} →
    rest ≡ line ++ (13 ∷ after) → list_all (differs 13) line ≡ true → out' ≡ out ++ line →
    out'' ≡ out' ++ cond (begins_with_line_feed after) [] (10 ∷ []) →
    out ++ with_line_feeds rest ≡ whole → out'' ++ with_line_feeds after ≡ whole
lined-turn out line after is none first second all =
    grind (arith, line_feeds-name, lined-step, append_assoc)

text-first : (digit : ℕ) (out words tag : List ℕ) {rest out' whole : List ℕ} →
    rest ≡ words ++ (60 ∷ tag) →
    list_all (differs 60) words ≡ true → out' ≡ out ++ with_line_feeds words →
    out ++ text_before digit false rest ≡ whole → out' ++ text_before digit false (60 ∷ tag) ≡ whole
text-first digit out words tag is none first all = grind (arith, text-run, append_assoc)

-- the heading ends
pub text-ends : (digit : ℕ) (out words tag : List ℕ) {rest out' whole : List ℕ} →
    rest ≡ words ++ (60 ∷ tag) →
    list_all (differs 60) words ≡ true → out' ≡ out ++ with_line_feeds words →
    closes_heading digit tag ≡ true → out ++ text_before digit false rest ≡ whole → out' ≡ whole
text-ends digit out words tag {out' = out'} is none first ends all =
    sym (append-nil out') ∙ ap (λ y. out' ++ y) (sym (text-closes digit tag ends))
    ∙ text-first digit out words tag is none first all

-- a tag is passed
pub text-turn : (digit : ℕ) (out words tag : List ℕ) {rest out' rest' whole : List ℕ} →
    rest ≡ words ++ (60 ∷ tag) →
    list_all (differs 60) words ≡ true → out' ≡ out ++ with_line_feeds words →
    closes_heading digit tag ≡ false →
    rest' ≡ past_angle tag → out ++ text_before digit false rest ≡ whole →
    out' ++ text_before digit false rest' ≡ whole
text-turn digit out words tag is none first on later all =
    rw (later, ← text-inside digit tag, ← text-opens digit tag on)
    (text-first digit out words tag is none first all)

-- a heading is found
pub heading-turn : (n at : ℕ) (found : List Listed) (rest : List ℕ) {m k : ℕ} {tag : List ℕ}
    {found' whole : List Listed} → IsTagAt picks_heading rest at → m ≡ n + 1 → k ≡ n + 1 →
    tag ≡ drop (at + 1) rest → found' ≡ found ++ (scanned_heading k tag ∷ []) →
    found ++ scanned_headings n rest ≡ whole → found' ++ scanned_headings m tag ≡ whole
heading-turn n at found rest h next number is more all =
    rw (more, ← all, next, number, is, add-one n, add-one at, clear-headings n at rest h.before)
    (rw (drop-at rest at h.within h.angle, h.picked) (simp append_assoc))

-- no heading is left
pub headings-all : (n : ℕ) (x : List ℕ) → clear picks_heading (length x) x ≡ true →
    scanned_headings n x ≡ []
headings-all n x h =
    grind (arith, clear-headings n (length x) x h, drop_all (length x) x (omega arith))
