-- The texts that stay when a head is inserted before the innermost one, or replaces the reserved
-- head.
use Rattle.std.proofs.Common.{◌≡◌, ℕ, ◌≤◌, ◌<◌, inr, List, ◌∷◌, ◌++◌, length, take, drop, refl}
use Rattle.std.proofs.Common.{sym, subst, arith, length-append}
use Rattle.std.proofs.lemmas.List.{take_all, take_at, drop_at, take-append-le, length-take-le}
use Rattle.std.specs.Str.{IsUtf8}
use Rattle.md_buffer.specs.declared.heads.Head.{Head}
use Rattle.md_buffer.specs.declared.output.Start.{Start}
use Rattle.md_buffer.specs.Waiting.{text_of, merged, before, texts_of, IsHead, Fit, IsSound}
use Rattle.md_buffer.specs.Waiting.{without_open}
use Rattle.md_buffer.proofs.HeadsFit.{fit-utf8, fit-heads}
use Rattle.md_buffer.proofs.Merged.{nothing, merged-heads, merged-open, fit-open}
use Rattle.md_buffer.proofs.Renewed.{renewed, renewed_texts, changed, changed_texts}

-- with more texts of heads
pub grown : (bytes heads more : List ℕ) (waiting : List Head) (start : Start)
    (outers : List Start) →
    IsSound bytes heads waiting start outers → IsSound bytes (heads ++ more) waiting start outers
grown bytes heads more waiting start outers sound =
    renewed bytes bytes heads (heads ++ more) waiting waiting start outers sound refl
    (sym (take-append-le start.heads heads more sound.within)) refl
    (let a : start.heads ≤ length heads = sound.within in
    omega (arith, length-append heads more)) sound.first
    (fit-heads bytes heads more (length bytes) start.place (drop start.first waiting) sound.text)

pub grown_texts :
    (bytes heads more : List ℕ) (waiting : List Head) (start : Start) (outers : List Start) →
    IsSound bytes heads waiting start outers →
    texts_of bytes (heads ++ more) waiting start outers ≡ texts_of bytes heads waiting start outers
grown_texts bytes heads more waiting start outers sound =
    grind (arith, renewed_texts, take-append-le, merged-heads)

-- later: it stands first among those that wait in it
abbrev pub waits_first : List Head → ℕ → Head → List Head
waits_first waiting first head = take first waiting ++ head ∷ without_open (drop first waiting)

pub later : (bytes heads : List ℕ) (waiting : List Head) (head : Head) (start : Start)
    (outers : List Start) →
    head.place ≡ start.place → start.place < length bytes → IsHead heads head →
    IsSound bytes heads waiting start outers →
    IsSound bytes heads (waits_first waiting start.first head) start outers
later bytes heads waiting head start outers at inside is sound =
    let kept : List Head = take start.first waiting in
    let many : length kept ≡ start.first = length-take-le start.first waiting sound.first in
    let rest : List Head = without_open (drop start.first waiting) in
    let fit : Fit bytes heads (length bytes) start.place rest =
    fit-open bytes heads (length bytes) start.place (drop start.first waiting) sound.text in
    changed bytes bytes heads waiting (kept ++ head ∷ rest) start outers sound refl
    (sym (take_at kept (head ∷ rest) start.first many))
    (omega (arith, length-append kept (head ∷ rest)))
    (subst (λ (ws : List Head). Fit bytes heads (length bytes) start.place ws)
    (sym (drop_at kept (head ∷ rest) start.first many)) (
      omega arith,
      fit-utf8 bytes heads (length bytes) start.place rest fit,
      is,
      inr (omega arith),
      subst (λ n. Fit bytes heads (length bytes) n rest) (sym at) fit,
    ))

pub later_texts : (bytes heads : List ℕ) (waiting : List Head) (head : Head) (start : Start)
    (outers : List Start) →
    head.place ≡ start.place → IsSound bytes heads waiting start outers →
    texts_of bytes heads (waits_first waiting start.first head) start outers ≡ record {
      text = text_of heads head ++ merged bytes heads start.place (drop start.first waiting);
      below = before bytes heads waiting start outers;
    }
later_texts bytes heads waiting head start outers at sound =
    grind (arith, length-take-le, changed_texts, take_at, drop_at, nothing, merged-open)

-- where the heads end with its text
pub is_last : (heads more : List ℕ) (head : Head) → IsUtf8 heads → IsUtf8 (heads ++ more) →
    head.from ≡ length heads → head.to ≡ length (heads ++ more) → IsHead (heads ++ more) head
is_last heads more head utf8 both from to = grind (arith, length-append, take_at, take_all)

pub last_text : (heads more : List ℕ) (head : Head) → head.from ≡ length heads →
    head.to ≡ length (heads ++ more) → text_of (heads ++ more) head ≡ more
last_text heads more head from to = grind (arith, take_all, drop_at)
