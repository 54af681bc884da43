-- The texts that stay when others are written, captured and kept for later.
use Rattle.std.proofs.Common.{◌≡◌, ℕ, ◌-◌, ◌≤◌, List, [], ◌∷◌, ◌++◌, length, take, drop, refl}
use Rattle.std.proofs.Common.{ap, sym, subst, ◌∙◌, arith, append-nil, length-append}
use Rattle.std.proofs.lemmas.List.{take_all, take_at, drop_all, take-append-le, drop-append-le}
use Rattle.std.proofs.lemmas.List.{length-take, length-drop}
use Rattle.std.specs.Str.{IsUtf8, IsCharBoundary}
use Rattle.md_meaning.specs.Meaning.Layout.{begins_line}
use Rattle.md_buffer.specs.declared.heads.Head.{Head}
use Rattle.md_buffer.specs.declared.output.Start.{Start}
use Rattle.md_buffer.specs.Waiting.{merged, before, texts_of, Fit, IsSound}
use Rattle.md_buffer.proofs.HeadsFit.{sooner, fit-bound, fit-boundary, fit-same, fit-more}
use Rattle.md_buffer.proofs.Merged.{merged-append, merged-split, fit-split, merged-none}
use Rattle.md_buffer.proofs.LastBytes.{merged-ends, merged-long}
use Rattle.md_buffer.proofs.Renewed.{changed, changed_texts}

-- where the innermost text starts
pub within : (bytes heads : List ℕ) (waiting : List Head) (start : Start) (outers : List Start) →
    IsSound bytes heads waiting start outers → start.place ≤ length bytes
within bytes heads waiting start outers sound = grind (arith, fit-bound)

pub boundary : (bytes heads : List ℕ) (waiting : List Head) (start : Start) (outers : List Start) →
    IsUtf8 bytes →
    IsSound bytes heads waiting start outers → IsCharBoundary bytes start.place
boundary bytes heads waiting start outers utf8 sound = grind (arith, fit-boundary)

-- the last byte of the innermost text
pub begins : (bytes heads : List ℕ) (waiting : List Head) (start : Start) (outers : List Start) →
    IsSound bytes heads waiting start outers →
    begins_line (merged bytes heads start.place (drop start.first waiting))
    ≡ begins_line (drop start.place bytes)
begins bytes heads waiting start outers sound = grind (arith, merged-ends)

-- how long it is at least
pub long : (bytes heads : List ℕ) (waiting : List Head) (start : Start) (outers : List Start) →
    IsSound bytes heads waiting start outers →
    length bytes - start.place ≤ length (merged bytes heads start.place (drop start.first waiting))
long bytes heads waiting start outers sound = grind (arith, merged-long, length-drop)

-- bytes are added, by a call that may run out of memory
pub longer : (xs ys heads : List ℕ) (waiting : List Head) (start : Start) (outers : List Start) →
    take (length xs) ys ≡ xs → IsSound xs heads waiting start outers →
    IsSound ys heads waiting start outers
longer xs ys heads waiting start outers same sound =
    let all : take (length xs) xs ≡ take (length xs) ys =
    take_all (length xs) xs (omega arith) ∙ sym same in
    let long : length xs ≤ length ys =
    (let l = length-take (length xs) ys in
    let e = ap (λ (t : List ℕ). length t) same in omega arith) in
    changed xs ys heads waiting waiting start outers sound
    (sooner xs ys (length xs) start.place (within xs heads waiting start outers sound) all)
    refl sound.first
    (fit-more ys heads (length xs) (length ys) start.place (drop start.first waiting) long
    (fit-same xs ys heads (length xs) start.place (drop start.first waiting) all sound.text))

-- a text is written
pub put : (bytes more heads : List ℕ) (waiting : List Head) (start : Start) (outers : List Start) →
    IsSound bytes heads waiting start outers → IsSound (bytes ++ more) heads waiting start outers
put bytes more heads waiting start outers sound =
    longer bytes (bytes ++ more) heads waiting start outers
    (take_at bytes more (length bytes) refl) sound

pub put_texts :
    (bytes more heads : List ℕ) (waiting : List Head) (start : Start) (outers : List Start) →
    IsSound bytes heads waiting start outers →
    texts_of (bytes ++ more) heads waiting start outers ≡ record {
      text = merged bytes heads start.place (drop start.first waiting) ++ more;
      below = before bytes heads waiting start outers;
    }
put_texts bytes more heads waiting start outers sound =
    changed_texts bytes (bytes ++ more) heads waiting waiting start outers
    (merged bytes heads start.place (drop start.first waiting) ++ more) sound
    (sym (take-append-le start.place bytes more (within bytes heads waiting start outers sound)))
    refl (merged-append bytes more heads start.place (drop start.first waiting) sound.text)

-- a text begins
pub capture :
    (bytes heads : List ℕ) (waiting : List Head) (start next : Start) (outers : List Start) →
    IsUtf8 bytes → IsUtf8 heads → next.place ≡ length bytes → next.first ≡ length waiting →
    next.heads ≡ length heads → IsSound bytes heads waiting start outers →
    IsSound bytes heads waiting next (start ∷ outers)
capture bytes heads waiting start next outers utf8 heads-utf8 place first many sound =
    grind (arith, take_all, drop_all)

-- an empty head at the end
pub kept : (bytes heads : List ℕ) (head : Head) → IsUtf8 bytes →
    head.place ≡ length bytes → head.from ≡ 0 →
    head.to ≡ 0 → Fit bytes heads (length bytes) (length bytes) (head ∷ [])
kept bytes heads head utf8 place from to = grind (arith, take_all)

-- a place is kept for a head
pub keep : (bytes heads : List ℕ) (waiting : List Head) (head : Head) (start : Start)
    (outers : List Start) →
    IsUtf8 bytes → head.place ≡ length bytes → head.from ≡ 0 → head.to ≡ 0 →
    IsSound bytes heads waiting start outers →
    IsSound bytes heads (waiting ++ head ∷ []) start outers
keep bytes heads waiting head start outers utf8 place from to sound =
    changed bytes bytes heads waiting (waiting ++ head ∷ []) start outers sound refl
    (sym (take-append-le start.first waiting (head ∷ []) sound.first))
    (let first : start.first ≤ length waiting = sound.first in
    omega (arith, length-append waiting (head ∷ [])))
    (subst (λ (ws : List Head). Fit bytes heads (length bytes) start.place ws)
    (sym (drop-append-le start.first waiting (head ∷ []) sound.first))
    (fit-split bytes heads (length bytes) start.place (length bytes) (drop start.first waiting)
    (head ∷ []) sound.text (kept bytes heads head utf8 place from to)))

pub keep_texts : (bytes heads : List ℕ) (waiting : List Head) (head : Head) (start : Start)
    (outers : List Start) →
    IsUtf8 bytes → head.place ≡ length bytes → head.from ≡ 0 → head.to ≡ 0 →
    IsSound bytes heads waiting start outers →
    texts_of bytes heads (waiting ++ head ∷ []) start outers
    ≡ texts_of bytes heads waiting start outers
keep_texts bytes heads waiting head start outers utf8 place from to sound =
    let text : List ℕ = merged bytes heads start.place (drop start.first waiting) in
    changed_texts bytes bytes heads waiting (waiting ++ head ∷ []) start outers text sound refl
    (sym (take-append-le start.first waiting (head ∷ []) sound.first))
    (ap (λ (ws : List Head). merged bytes heads start.place ws)
    (drop-append-le start.first waiting (head ∷ []) sound.first)
    ∙ merged-split bytes heads start.place (length bytes) (drop start.first waiting) (head ∷ [])
    (omega arith) sound.text (kept bytes heads head utf8 place from to)
    ∙ ap (λ t. merged (take (length bytes) bytes) heads start.place (drop start.first waiting) ++ t)
    (merged-none bytes heads (length bytes) (head ∷ []) refl
    (kept bytes heads head utf8 place from to))
    ∙ append-nil (merged (take (length bytes) bytes) heads start.place (drop start.first waiting))
    ∙ ap (λ t. merged t heads start.place (drop start.first waiting))
    (take_all (length bytes) bytes (omega arith)))
