-- Blocks with tags or raw text; lines of code and HTML print escaped texts.
use Rattle.std.proofs.Common.{◌≡◌, ℕ, ◌≤◌, Bool, true, false, cond, List, ◌||◌, arith}
use Rattle.std.proofs.lemmas.Bool.{or_cases}
use Rattle.md_base.specs.declared.event.Name.{Name}
use Rattle.md_base.specs.declared.event.Name.TheVariants as name_variants
use name_variants.{LineEnding, BlockQuote, ListOrdered, ListUnordered, ListItem, CodeIndented}
use name_variants.{CodeFenced, MathFlow, HtmlFlow, HtmlFlowData, HtmlTextData, HeadingAtx}
use name_variants.{HeadingSetextUnderlineSequence, Paragraph, ThematicBreak}
use Rattle.md_text.proofs.EncodeLaws.{is_escaped-encoded}
use Rattle.md_meaning.specs.Meaning.At.{Context, At}
use Rattle.md_meaning.specs.Meaning.Layout.{Piece}
use Rattle.md_meaning.specs.Meaning.Means.{prints}
use Rattle.md_meaning.specs.Meaning.Spans.{escaped, html}
use Rattle.md_meaning.specs.Meaning.Blocks.{fenced}
use Rattle.md_content.specs.Built.{Blocks, FirstMathFence, is_line, content_of}
use Rattle.md_safe.proofs.Spot.{Setting, IsFitAt, Prints, encoded-escaped}
use Rattle.md_safe.proofs.Texts.{Escaped}
use Rattle.md_safe.proofs.Laid.{adds-text, adds-needed, adds-when, escaped_beside}
use Rattle.md_safe.proofs.RawElements.{code_tag, math_tag}
use Rattle.md_safe.proofs.Insides.{is_raw}
use Rattle.md_safe.proofs.StringNodes.{line_ending-escaped}

-- blocks with tags or raw text
abbrev pub is_flow : Name → Bool
is_flow name = elim name [
  | BlockQuote ↦ true
  | ListOrdered ↦ true
  | ListUnordered ↦ true
  | ListItem ↦ true
  | Paragraph ↦ true
  | ThematicBreak ↦ true
  | HeadingAtx ↦ true
  | HeadingSetextUnderlineSequence ↦ true
  | CodeIndented ↦ true
  | CodeFenced ↦ true
  | MathFlow ↦ true
  | HtmlFlow ↦ true
  | _ ↦ false
]

-- a line of code or its end, or HTML
abbrev is_html : Name → Bool
is_html name = elim name [ HtmlFlowData ↦ true | HtmlTextData ↦ true | _ ↦ false ]

abbrev pub is_leaf : Name → Bool
is_leaf name = is_line name || is_html name

-- math, or else code; its printed text, and its content
abbrev pub is_math : Name → Bool
is_math name = elim (content_of name Blocks) [ FirstMathFence ↦ true | _ ↦ false ]

abbrev pub raw_tag : Bool → List ℕ
raw_tag math = cond math math_tag code_tag

pub raw-prints : (context : Context) (t : At) (name : Name) → is_raw name ≡ true →
    (inner : List Piece) → prints context t name inner ≡ fenced t (raw_tag (is_math name)) inner
raw-prints context t name is inner = grind arith

-- what is claimed of a text
abbrev pub Reads : Setting → List ℕ → Type 0
Reads s x = s.p.holds x

pub setext-fits : (dash : Bool) → (1 ≤ cond dash 2 1) × (cond dash 2 1 ≤ 6)
setext-fits dash = grind arith

-- HTML, escaped
html-escaped : (s : Setting) (t : At) → t.around.is_escaping ≡ true →
    Prints s Escaped (escaped t (html s.context t))
html-escaped s t e = adds-text (encoded-escaped t.around.is_escaping (html s.context t) e)

-- lines are escaped, wherever they stand
pub line-escaped : (s : Setting) (t : At) (name : Name) → is_line name ≡ true → IsFitAt s t name →
    (inner : List Piece) → Prints s Escaped (prints s.context t name inner)
line-escaped s t LineEnding is fit inner = line_ending-escaped s t fit
line-escaped s t name is fit inner =
    grind (arith, adds-when, escaped_beside, adds-needed, adds-text, is_escaped-encoded)

pub leaf-escaped : (s : Setting) (t : At) (name : Name) → t.around.is_escaping ≡ true →
    is_leaf name ≡ true → IsFitAt s t name → (inner : List Piece) →
    Prints s Escaped (prints s.context t name inner)
leaf-escaped s t name e is fit inner = grind (arith, or_cases, line-escaped, html-escaped)
