-- What texts stay where the innermost one ends or goes.
use Rattle.std.proofs.Common.{◌≡◌, ℕ, ◌≤◌, List, [], ◌∷◌}
use Rattle.std.proofs.Common.{◌++◌, length, take, drop, reverse, refl, ap, sym, subst, ◌∙◌, arith}
use Rattle.std.proofs.lemmas.List.{take-take, drop_all, drop-append-le, take-append-drop}
use Rattle.std.proofs.lemmas.List.{length-take-le, length-take, reverse-append}
use Rattle.std.proofs.lemmas.Str.{IsCharBoundary-from_take}
use Rattle.std.specs.Str.{IsUtf8, IsCharBoundary}
use Rattle.md_buffer.specs.declared.heads.Head.{Head}
use Rattle.md_buffer.specs.declared.output.Start.{Start}
use Rattle.md_buffer.specs.Texts.{Texts}
use Rattle.md_buffer.specs.Waiting.{merged, before, texts_of, Fit, IsSound, without_open}
use Rattle.md_buffer.specs.Waiting.{texts_from}
use Rattle.md_buffer.proofs.HeadsFit.{fit-utf8, fit-all}
use Rattle.md_buffer.proofs.Merged.{nothing, merged-all, merged-split, fit-split, merged-open}
use Rattle.md_buffer.proofs.Renewed.{renewed, renewed_texts, changed, changed_texts}
use Rattle.md_buffer.proofs.Sound.{within}

-- ---- the innermost text ends

-- the heads after an index are those up to a later one, and those after that
parts : (waiting : List Head) (outer first : ℕ) → outer ≤ first → first ≤ length waiting →
    drop outer waiting ≡ drop outer (take first waiting) ++ drop first waiting
parts waiting outer first ordered within =
    ap (λ (ws : List Head). drop outer ws) (sym (take-append-drop first waiting))
    ∙ drop-append-le outer (take first waiting) (drop first waiting)
    (let k : length (take first waiting) ≡ first = length-take-le first waiting within in
    omega arith)

pub join : (bytes heads : List ℕ) (waiting : List Head) (start outer : Start)
    (others : List Start) →
    IsSound bytes heads waiting start (outer ∷ others) → IsSound bytes heads waiting outer others
join bytes heads waiting start outer others sound = record {
  first = (let a : outer.first ≤ start.first = sound.below.0 in
      let b : start.first ≤ length waiting = sound.first in omega arith);
  within = (let a : outer.heads ≤ start.heads = sound.below.1 in
      let b : start.heads ≤ length heads = sound.within in omega arith);
  utf8 = sound.below.2;
  text =
      subst (λ (ws : List Head). Fit bytes heads (length bytes) outer.place ws)
      (sym (parts waiting outer.first start.first sound.below.0 sound.first)) (fit-split bytes heads
      (length bytes) outer.place start.place (drop outer.first (take start.first waiting))
      (drop start.first waiting) (fit-all bytes heads start.heads start.place outer.place
      (drop outer.first (take start.first waiting)) sound.below.3)
      sound.text);
  below = sound.below.4;
}

pub join_texts :
    (bytes heads : List ℕ) (waiting : List Head) (start outer : Start) (others : List Start) →
    IsSound bytes heads waiting start (outer ∷ others) →
    texts_of bytes heads waiting outer others ≡ record {
      text =
          merged (take start.place bytes) (take start.heads heads) outer.place
          (drop outer.first (take start.first waiting))
          ++ merged bytes heads start.place (drop start.first waiting);
      below = before bytes heads waiting outer others;
    }
join_texts bytes heads waiting start outer others sound =
    let made : List ℕ → Texts =
    λ t. record { text = t; below = before bytes heads waiting outer others } in
    let front : List Head = drop outer.first (take start.first waiting) in
    ap (λ t. made t)
    (ap (λ (ws : List Head). merged bytes heads outer.place ws)
    (parts waiting outer.first start.first sound.below.0 sound.first)
    ∙ merged-split bytes heads outer.place start.place front (drop start.first waiting)
    (within bytes heads waiting start (outer ∷ others) sound)
    (fit-all bytes heads start.heads start.place outer.place front sound.below.3) sound.text
    ∙ ap (λ t. t ++ merged bytes heads start.place (drop start.first waiting))
    (sym (merged-all (take start.place bytes) heads start.heads start.place outer.place front
    bytes sound.below.3)))

-- the last of a list is the first of its reverse
pub popped : (before after : List Start) (last : Start) → before ≡ after ++ last ∷ [] →
    reverse before ≡ last ∷ reverse after
popped before after last e = ap (λ (l : List Start). reverse l) e ∙ reverse-append after (last ∷ [])

-- ---- the innermost text goes

-- the texts of heads that are left
left : (heads : List ℕ) (waiting : List Head) (start : Start) →
    take start.heads (texts_from start.first start.heads waiting heads) ≡ take start.heads heads
left heads waiting start = grind (arith, take-take)

left-within : (heads : List ℕ) (waiting : List Head) (start : Start) → start.heads ≤ length heads →
    start.heads ≤ length (texts_from start.first start.heads waiting heads)
left-within heads waiting start within = grind (arith, length-take)

pub clear : (bytes heads : List ℕ) (waiting : List Head) (start : Start) (outers : List Start) →
    IsSound bytes heads waiting start outers →
    IsSound (take start.place bytes) (texts_from start.first start.heads waiting heads)
    (take start.first waiting)
    start outers
clear bytes heads waiting start outers sound =
    let front : List ℕ = take start.place bytes in
    let others : List ℕ = texts_from start.first start.heads waiting heads in
    let kept : List Head = take start.first waiting in
    let long : length front ≡ start.place =
    length-take-le start.place bytes (within bytes heads waiting start outers sound) in
    let many : length kept ≡ start.first = length-take-le start.first waiting sound.first in
    renewed bytes front heads others waiting kept start outers sound
    (sym (take-take start.place start.place bytes (omega arith))) (sym (left heads waiting start))
    (sym (take-take start.first start.first waiting (omega arith)))
    (left-within heads waiting start sound.within) (omega arith)
    (subst (λ (ws : List Head). Fit front others (length front) start.place ws)
    (sym (drop_all start.first kept (omega arith))) (
      omega arith,
      subst (λ t. IsUtf8 t) (sym (take-take start.place start.place bytes (omega arith)))
          (fit-utf8 bytes heads (length bytes) start.place (drop start.first waiting) sound.text),
    ))

pub clear_texts :
    (bytes heads : List ℕ) (waiting : List Head) (start : Start) (outers : List Start) →
    IsSound bytes heads waiting start outers →
    texts_of (take start.place bytes) (texts_from start.first start.heads waiting heads)
    (take start.first waiting) start outers
    ≡ record { text = []; below = before bytes heads waiting start outers }
clear_texts bytes heads waiting start outers sound =
    grind (arith, length-take-le, renewed_texts, take-take, drop_all, nothing)

-- where the texts of its heads start
pub heads-boundary : (bytes heads : List ℕ) (waiting : List Head) (start : Start)
    (outers : List Start) →
    IsUtf8 heads → IsSound bytes heads waiting start outers → IsCharBoundary heads start.heads
heads-boundary bytes heads waiting start outers utf8 sound =
    IsCharBoundary-from_take heads start.heads utf8 sound.within sound.utf8

-- where none waits in the innermost text, those kept for it are forgotten
pub close : (bytes heads : List ℕ) (waiting : List Head) (start : Start) (outers : List Start) →
    IsSound bytes heads waiting start outers →
    IsSound bytes heads (take start.first waiting) start outers
close bytes heads waiting start outers sound =
    let kept : List Head = take start.first waiting in
    let many : length kept ≡ start.first = length-take-le start.first waiting sound.first in
    changed bytes bytes heads waiting kept start outers sound refl
    (sym (take-take start.first start.first waiting (omega arith))) (omega arith)
    (subst (λ (ws : List Head). Fit bytes heads (length bytes) start.place ws)
    (sym (drop_all start.first kept (omega arith))) (
      within bytes heads waiting start outers sound,
      fit-utf8 bytes heads (length bytes) start.place (drop start.first waiting) sound.text,
    ))

pub close_texts :
    (bytes heads : List ℕ) (waiting : List Head) (start : Start) (outers : List Start) →
    without_open (drop start.first waiting) ≡ [] → IsSound bytes heads waiting start outers →
    texts_of bytes heads (take start.first waiting) start outers
    ≡ texts_of bytes heads waiting start outers
close_texts bytes heads waiting start outers none sound =
    grind (arith, length-take-le, changed_texts, take-take, drop_all, merged-open)
