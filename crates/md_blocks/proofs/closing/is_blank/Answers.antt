-- Spaces that are left of a tab are blank.
use Rattle.std.proofs.Common.{ℕ, List, ◌≡◌, ◌≤◌, ◌==◌, ◌+◌, ◌-◌, ◌++◌, ◌∙◌, zero, suc, ap, sym, refl}
use Rattle.std.proofs.Common.{arith, length, drop, take}
use Rattle.std.specs.Prelude.{replicate, if◌then◌else◌}
use Rattle.std.proofs.Math.Dec.{eqb-suc-suc}
use Rattle.std.proofs.lemmas.Bool.{ne_eqb}
use Rattle.std.proofs.lemmas.List.{length-take}
use Rattle.md_blocks.specs.Marks.{is_blank_text}
use Rattle.md_blocks.specs.Tapes.{between}
use Rattle.md_blocks.proofs.LineLemmas.{cut, next}
use Rattle.md_blocks.proofs.closing.is_blank.Goals as goal

both_more : (a b : ℕ) → (1 + a == suc b) ≡ (a == b)
both_more a b =
    let next : 1 + a ≡ suc a = omega arith in
    ap (λ n. n == suc b) next ∙ eqb-suc-suc a b

spaces_blank : (n : ℕ) (text : List ℕ) → is_blank_text (replicate n 32 ++ text) ≡ is_blank_text text
spaces_blank zero text = refl
spaces_blank (suc n) text = both_more _ _ ∙ spaces_blank n text

pub returns-else-line-eq0 : goal.returns-else-line-eq0
returns-else-line-eq0 c =
    let bytes = c.args.bytes.now in
    let line = c.args.line in
    let short : length (take c.min.result bytes) ≤ 18446744073709551615 =
    omega (arith, length-take c.min.result bytes, c.min.type_inv) in
    c.is_blank_from-else-line-eq0.ensures
    ∙ ap is_blank_text (next line.start _ 18446744073709551615 (take c.min.result bytes)
    c.saturating_add.ensures short)
    ∙ ap (λ text. is_blank_text (drop (suc line.start) text)) (cut _ line.end bytes c.min.ensures)
    ∙ sym (spaces_blank (4 - line.columns) (between (suc line.start) line.end bytes))
    ∙ ap (λ is. is_blank_text (if is then between line.start line.end bytes
    else replicate (4 - line.columns) 32 ++ between (suc line.start) line.end bytes))
    (sym (ne_eqb line.columns 0 c.if-line-eq0.false))
