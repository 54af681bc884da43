-- Spans that print something else than their children, and what they print in images.
use Rattle.std.proofs.Common.{◌≡◌, Bool, true, false, ◌||◌, List, arith}
use Rattle.md_base.specs.declared.event.Name.{Name}
use Rattle.md_base.specs.declared.event.Name.TheVariants as name_variants
use name_variants.{Link, Image, HardBreakEscape, HardBreakTrailing, GfmTaskListItemCheck}
use name_variants.{GfmFootnoteCall}
use Rattle.md_text.proofs.EncodeLaws.{is_escaped-encoded}
use Rattle.md_meaning.specs.Meaning.At.{At}
use Rattle.md_meaning.specs.Meaning.Layout.{Piece}
use Rattle.md_meaning.specs.Meaning.Means.{prints}
use Rattle.md_content.specs.Built.{is_autolink, Spans}
use Rattle.md_safe.proofs.Spot.{Setting, Prints, Inside}
use Rattle.md_safe.proofs.Cases.{either}
use Rattle.md_safe.proofs.Texts.{Escaped}
use Rattle.md_safe.proofs.Laid.{adds-text, adds-nothing, adds-weaker, adds-alone}
use Rattle.md_safe.proofs.SpanSorts.{pair-inside, is_pair, pair-prints, is_code, code-prints}
use Rattle.md_safe.proofs.SpanSorts.{code-text, shown-escaped, autolink-prints}

-- other spans that print something else than their children
abbrev pub is_single : Name → Bool
is_single name = elim name [
  | Link ↦ true
  | Image ↦ true
  | HardBreakEscape ↦ true
  | HardBreakTrailing ↦ true
  | GfmTaskListItemCheck ↦ true
  | GfmFootnoteCall ↦ true
  | _ ↦ false
]

abbrev pub is_shown : Name → Bool
is_shown name = is_pair name || (is_code name || is_single name)

-- ---- in images

pub shown-in_image : (s : Setting) (t : At) (name : Name) → t.around.is_escaping ≡ true →
    t.around.in_image ≡ true → is_shown name ≡ true → (inner : List Piece) →
    Inside s t Spans name inner → Prints s Escaped (prints s.context t name inner)
shown-in_image s t name e image is inner a = either (is_pair name) _ is
    (grind (arith, pair-prints, pair-inside)) (λ c. either (is_code name) (is_single name) c
    (grind (arith, code-prints, adds-text, shown-escaped, code-text))
    (grind (arith, adds-text, adds-alone, adds-nothing, adds-weaker)))

-- an autolink, which is plain there
pub autolink-in_image : (s : Setting) (t : At) (name : Name) → t.around.in_image ≡ true →
    is_autolink name ≡ true → (inner : List Piece) → Prints s
    Escaped (prints s.context t name inner)
autolink-in_image s t name image is inner =
    grind (arith, autolink-prints, adds-text, is_escaped-encoded)
