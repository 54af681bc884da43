-- The tags of fenced code and of math, around what is said of it and what it holds.
use Rattle.std.proofs.Common.{◌≡◌, ◌⊎◌, ℕ, List, [], ◌∷◌, ◌++◌, refl, ap, append_assoc, append-nil}
use Rattle.std.proofs.Common.{codes}
use Rattle.std.specs.List.{list_any}
use Rattle.md_base.specs.Children.{spine_names}
use Rattle.md_base.specs.NameTests.{is_chunk}
use Rattle.md_meaning.specs.Meaning.At.{At}
use Rattle.md_meaning.specs.Meaning.Layout.{Piece, Text, Needed, Forced, when}
use Rattle.md_meaning.specs.Meaning.Blocks.{code_end, is_unclosed, runs_out}
use Rattle.md_safe.proofs.Texts.{Escaped}
use Rattle.md_safe.proofs.Laid.{Adds, adds-append, adds-needed, adds-forced, adds-when, IsBeside}
use Rattle.md_safe.proofs.Tags.{IsFramed, Turns, Takes, adds-flat, adds-framed, framed-after}
use Rattle.md_safe.proofs.Elements.{code_closing}

-- the tags of fenced code, without the end of the second one, and of math
abbrev pub code_tag : List ℕ
code_tag = codes "<pre><code"

abbrev pub math_tag : List ℕ
math_tag = codes "<pre><code class=\"language-math math-display\""

-- the attributes of the tag of code: none, or for fenced code a class for its language
abbrev pub IsInfo : List ℕ → List ℕ → Type 0
IsInfo tag x =
    (x ≡ []) ⊎ ((v : List ℕ) × (x ≡ codes " class=\"language-" ++ (v ++ codes "\"")) × Escaped v
    × (tag ≡ code_tag))

-- a text that ends an opening tag of code, followed by an escaped text
pub record IsRaw (tag x : List ℕ) : Type 0 where
  pub attributes : List ℕ
  pub info : IsInfo tag attributes
  pub body : List ℕ
  pub whole : x ≡ attributes ++ (62 ∷ body)
  pub escaped : Escaped body

-- a text and a tag's beginning
abbrev IsBegun : (List ℕ → Type 0) → List ℕ → List ℕ → Type 0
IsBegun W tag x = (e : List ℕ) × (x ≡ e ++ tag) × W e

-- the rest of a tag of code, which changes one claim into another, and an escaped text
pub record IsOpened (Q R : List ℕ → Type 0) (tag x : List ℕ) : Type 0 where
  pub attributes : List ℕ
  pub body : List ℕ
  pub whole : x ≡ attributes ++ (62 ∷ body)
  pub escaped : Escaped body
  pub turns : Turns Q R (tag ++ (attributes ++ (62 ∷ []))) code_closing

raw-enclosed : {W Q R : List ℕ → Type 0} {tag x y z : List ℕ} → Takes W R →
    ((x w : List ℕ) → Escaped x → W w → Q (x ++ w)) → IsBegun W tag x → IsOpened Q R tag y →
    IsFramed W code_closing z → R (x ++ (y ++ z))
raw-enclosed stays says a r c =
    let inside = says r.body c.before r.escaped c.is_before in
    rw (a.1, r.whole, c.whole) (simp append_assoc (simp append_assoc at
    (stays.take a.0 _ c.after a.2 (r.turns.turn _ inside) c.is_after)))

-- fenced code or math
pub adds-raw : {W Q R : List ℕ → Type 0} {ending : List ℕ} {tag : List ℕ} {inner end : List Piece} →
    IsBeside W → Takes W R → ((x w : List ℕ) → Escaped x → W w → Q (x ++ w)) → W ending →
    Adds ending (IsOpened Q R tag) inner → Adds ending (IsFramed W code_closing) end →
    Adds ending R ((Needed ∷ Text tag ∷ []) ++ (inner ++ end))
adds-raw {W} {Q} {R} {tag = tag} beside stays says h a b = adds-append {f = IsBegun W tag} {g = λ w.
    (y : List ℕ) × (z : List ℕ) × (w ≡ y ++ z) × IsOpened Q R tag y × IsFramed W code_closing z}
    (λ x w f g. rw g.2 (raw-enclosed stays says f g.3 g.4)) (adds-append
    (λ x y f g. (x, ap (λ y. x ++ y) g, f)) (adds-needed beside h) (adds-flat {f = λ y. y ≡ tag}
    {pieces = Text tag ∷ []} refl (append-nil tag)))
    (adds-append (λ y z f g. (y, z, refl, f, g)) a b)

-- the end of code, and of fenced code, with what is on a line of its own before it and after it
pub code-end : {W : List ℕ → Type 0} {ending : List ℕ} → IsBeside W → W ending → (t : At) →
    Adds ending (IsFramed W code_closing) (code_end t)
code-end beside h t = framed-after beside (adds-when beside _ (adds-needed beside h))

pub fenced-end : {W : List ℕ → Type 0} {ending : List ℕ} → IsBeside W → W ending → (t : At) → Adds
    ending (IsFramed W code_closing) (when (runs_out t)
    (Forced ∷ []) ++ (code_end t ++ when (is_unclosed t) (Needed ∷ [])))
fenced-end {W} {ending} beside h t =
    let out = adds-when beside (runs_out t) (adds-forced h) in
    let line = adds-when beside (list_any is_chunk (spine_names t.children)) (adds-needed beside h)
    in
    let last = adds-when beside (is_unclosed t) (adds-needed beside h) in
    simp append_assoc (simp append_assoc at (adds-framed {c = code_closing} (adds-append beside.both
    out line) last))

pub raw : (tag x y : List ℕ) → IsInfo tag x → Escaped y → IsRaw tag (x ++ (62 ∷ y))
raw tag x y h e = record { attributes = x; info = h; body = y; whole = refl; escaped = e }
