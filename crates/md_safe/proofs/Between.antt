-- Texts in a row, and the line endings of two of them; single texts that end in the data state, and
-- ones that don't.
use Rattle.std.proofs.Common.{◌≡◌, ℕ, ◌==◌, Bool, true, false, ◌&&◌, cond, List, [], ◌∷◌, ◌++◌}
use Rattle.std.proofs.Common.{refl, ap, ◌∙◌, append-nil, append_assoc, codes, sym, arith}
use Rattle.md_safe.specs.Input.{begins_with_line_feed, with_line_feeds}
use Rattle.md_safe.specs.Embedded.{splits_newline, EndsInDataState, HasTokensAfter}
use Rattle.md_safe.proofs.LineFeeds.{one, one-append}
use Rattle.md_text.specs.Html.{Attribute, Forest, is_forest, written, IsReading, HasOneReadingWith}
use Rattle.md_safe.specs.Token.{Token, EndOfFile, Character, StartTag}
use Rattle.md_safe.specs.TokenizerStates.{Data}
use Rattle.md_safe.specs.Tokenizer.{IsTokenized, IsRun}
use Rattle.md_safe.specs.Tokens.{tokens}
use Rattle.md_safe.specs.Tokenizes.{Tokenizes}
use Rattle.md_safe.proofs.ForestLeads.{forest-ends, reading-ends}
use Rattle.md_safe.proofs.Joining.{leads-on, runs-on, run-on}
use Rattle.std.proofs.lemmas.Bool.{and_right, or_right}
use Rattle.std.specs.Str.{bytes_eq}
use Rattle.std.specs.List.{list_any}
use Rattle.md_safe.proofs.OneRun.{one_run}
use Rattle.md_safe.proofs.Steps.{attribute}
use Rattle.md_base.proofs.Lies.{lie}
use Rattle.std.proofs.lemmas.List.Folds.{list_any-append}

pub line_feeds-apart : (x r : List ℕ) → splits_newline x r ≡ false →
    with_line_feeds (x ++ r) ≡ with_line_feeds x ++ with_line_feeds r
line_feeds-apart [] r h = refl
line_feeds-apart (b ∷ []) r h = by (b == 13) (begins_with_line_feed r) h
  where
    by : (return feed : Bool) → (return && feed) ≡ false →
        cond return (cond feed (with_line_feeds r) (10 ∷ with_line_feeds r)) (b ∷ with_line_feeds r)
        ≡ cond return (10 ∷ []) (b ∷ []) ++ with_line_feeds r
    by true true h = cc
    by true false h = refl
    by false feed h = refl
line_feeds-apart (b ∷ c ∷ x) r h = grind (arith, one-append, line_feeds-apart (c ∷ x) r h)

-- of CR LF one line feed is the first text's
pub line_feeds-split : (x r : List ℕ) → splits_newline x (10 ∷ r) ≡ true →
    with_line_feeds (x ++ (10 ∷ r)) ≡ with_line_feeds x ++ with_line_feeds r
line_feeds-split [] r h = cc
line_feeds-split (b ∷ []) r h = grind arith
line_feeds-split (b ∷ c ∷ x) r h = grind (arith, one-append, line_feeds-split (c ∷ x) r h)

pub alone : (text after : List ℕ) (emits : List Token) → EndsInDataState text emits →
    splits_newline text after ≡ false →
    Tokenizes Data (with_line_feeds (text ++ after)) emits (with_line_feeds after)
alone text after emits h n = rw (line_feeds-apart text after n) (h (with_line_feeds after))

pub split : (text after : List ℕ) (emits : List Token) → EndsInDataState text emits →
    splits_newline text (10 ∷ after) ≡ true →
    Tokenizes Data (with_line_feeds (text ++ (10 ∷ after))) emits (with_line_feeds after)
split text after emits h n = rw (line_feeds-split text after n) (h (with_line_feeds after))

pub tokenized : (text after : List ℕ) (emits later : List Token) → EndsInDataState text emits →
    splits_newline text after ≡ false → IsTokenized after later →
    IsTokenized (text ++ after) (emits ++ later)
tokenized text after emits later h n k =
    runs-on Data (with_line_feeds (text ++ after)) (with_line_feeds after) emits later
    (alone text after emits h n) k

pub tokenized-only : (text after : List ℕ) (emits all : List Token) → EndsInDataState text emits →
    splits_newline text after ≡ false → IsTokenized (text ++ after) all →
    HasTokensAfter emits after all
tokenized-only text after emits all h n k =
    let r = run-on Data (with_line_feeds (text ++ after)) (with_line_feeds after) emits all
    (alone text after emits h n) k in
    record { later = r.0; alone = r.1; together = r.2 }

pub own-tokens : (text : List ℕ) (emits : List Token) → EndsInDataState text emits →
    IsTokenized text (emits ++ (EndOfFile ∷ []))
own-tokens text emits h = rw (append-nil (with_line_feeds text)) at
    (runs-on _ _ _ _ _ (h []) record { steps = 1; emits = refl })

-- ---- a forest, before what doesn't begin with LF, and alone

pub in_place : (f : Forest) (r : List ℕ) (t : List Token) → is_forest f ≡ true →
    begins_with_line_feed r ≡ false →
    IsTokenized r t → IsTokenized (written f ++ r) (tokens f ++ t)
in_place f r t h n k = grind (arith, tokenized, forest-ends, and_right)

pub whole : (f : Forest) → is_forest f ≡ true →
    IsTokenized (written f) (tokens f ++ (EndOfFile ∷ []))
whole f h = own-tokens (written f) (tokens f) (forest-ends f h)

pub reading-runs : (p : Attribute → Bool) (text : List ℕ) (one : HasOneReadingWith p text) →
    IsTokenized text (tokens one.forest ++ (EndOfFile ∷ []))
reading-runs p text one = grind (arith, own-tokens, reading-ends)

-- ---- several texts

pub join : (before text : List ℕ) (earlier emits : List Token) → EndsInDataState before earlier →
    EndsInDataState text emits → splits_newline before text ≡ false →
    EndsInDataState (before ++ text) (earlier ++ emits)
join before text earlier emits h k n after = grind (arith, line_feeds-apart, append_assoc, leads-on)

pub between : (before text after : List ℕ) (earlier : List Token) (f : Forest) →
    EndsInDataState before earlier →
    IsReading text f → splits_newline before text ≡ false →
    splits_newline (before ++ text) after ≡ false →
    Tokenizes Data (with_line_feeds (before ++ (text ++ after))) (earlier ++ tokens f)
    (with_line_feeds after)
between before text after earlier f h reading n m = rw append_assoc at (alone (before ++ text) after
    (earlier ++ tokens f) (grind (arith, join, reading-ends)) m)

pub between-tokenized : (before text after : List ℕ) (earlier later : List Token) (f : Forest) →
    EndsInDataState before earlier → IsReading text f → splits_newline before text ≡ false →
    splits_newline (before ++ text) after ≡ false → IsTokenized after later →
    IsTokenized (before ++ (text ++ after)) (earlier ++ (tokens f ++ later))
between-tokenized before text after earlier later f h reading n m k = simp append_assoc at
    (tokenized (before ++ text) after (earlier ++ tokens f) later
    (grind (arith, join, reading-ends)) m k)

-- the rest would be emitted, and isn't
lost : (p : Token → Bool) (input mid : List ℕ) (t u all : List Token) → IsRun Data mid u →
    IsRun Data input all → list_any p u ≡ true → list_any p all ≡ false →
    Tokenizes Data input t mid → ⊥
lost p input mid t u all k l has hasn't h = lie (sym hasn't ∙ ap (list_any p) (one_run _ _ _ _ l
    (runs-on _ _ _ t u h k)) ∙ list_any-append p t u ∙ or_right _ _ has)

abbrev is_byte : ℕ → Token → Bool
is_byte b token = elim token [ Character c ↦ c == b | _ ↦ false ]

abbrev is_start : List ℕ → Token → Bool
is_start name token = elim token [ StartTag n attributes flag ↦ bytes_eq n name | _ ↦ false ]

pub reference : (emits : List Token) → EndsInDataState (codes "&") emits → ⊥
reference emits h =
    lost (is_byte 97) (codes "&amp;") (codes "amp;") emits
    (Character 97 ∷ Character 109 ∷ Character 112 ∷ Character 59 ∷ EndOfFile ∷ [])
    (Character 38 ∷ EndOfFile ∷ []) record { steps = 9; emits = refl }
    record { steps = 9; emits = refl } refl refl (h (codes "amp;"))

pub tag : (emits : List Token) → EndsInDataState (codes "<div ") emits → ⊥
tag emits h = lost (is_byte 62) (codes "<div >") (codes ">") emits (Character 62 ∷ EndOfFile ∷ [])
    (StartTag (codes "div") [] false ∷ EndOfFile ∷ []) record { steps = 19; emits = refl }
    record { steps = 19; emits = refl } refl refl (h (codes ">"))

pub title : (emits : List Token) → EndsInDataState (codes "<title>") emits → ⊥
title emits h =
    lost (is_start (codes "p")) (codes "<title><p>") (codes "<p>") emits
    (StartTag (codes "p") [] false ∷ EndOfFile ∷ []) (StartTag (codes "title") [] false
    ∷ Character 60 ∷ Character 112 ∷ Character 62 ∷ EndOfFile ∷ [])
    record { steps = 19; emits = refl } record { steps = 19; emits = refl } refl
    refl (h (codes "<p>"))

pub value : (emits : List Token) → EndsInDataState (codes "<div class=\"") emits → ⊥
value emits h =
    lost (is_byte 62) (codes "<div class=\"\">") (codes "\">") emits
    (Character 34 ∷ Character 62 ∷ EndOfFile ∷ [])
    (StartTag (codes "div") (attribute (codes "class") [] ∷ []) false ∷ EndOfFile ∷ [])
    record { steps = 29; emits = refl } record { steps = 29; emits = refl } refl
    refl (h (codes "\">"))

pub two_feeds : Tokenizes Data (10 ∷ []) (Character 10 ∷ []) (10 ∷ []) → ⊥
two_feeds h = cc (one_run _ (10 ∷ []) (Character 10 ∷ EndOfFile ∷ []) (Character 10 ∷ Character 10 ∷
    EndOfFile ∷ []) record { steps = 9; emits = refl } (runs-on _ _ _ (Character 10 ∷ []) _ h record
    { steps = 9; emits = refl }))
