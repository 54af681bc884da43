-- Spans with tags around their children, and code: what is printed of each.
use Rattle.std.proofs.Common.{arith, ◌≡◌, ℕ, Bool, true, false, cond, ◌||◌, List, [], ◌∷◌, ◌++◌}
use Rattle.std.proofs.Common.{codes}
use Rattle.md_base.specs.declared.event.Name.{Name}
use Rattle.md_base.specs.declared.event.Name.TheVariants as name_variants
use name_variants.{Emphasis, Strong, GfmStrikethrough, CodeText, MathText, AutolinkEmail}
use name_variants.{GfmAutolinkLiteralEmail, GfmAutolinkLiteralWww}
use Rattle.md_meaning.specs.Meaning.At.{Context, At}
use Rattle.md_meaning.specs.Meaning.Layout.{Piece, layout, said}
use Rattle.md_meaning.specs.Meaning.Means.{prints}
use Rattle.md_meaning.specs.Meaning.Spans.{span, code, trimmed, without_escapes}
use Rattle.md_meaning.specs.Meaning.Media.{autolink}
use Rattle.md_content.specs.Built.{Content, is_autolink}
use Rattle.md_safe.specs.Links.{prints_link}
use Rattle.md_safe.proofs.Texts.{Escaped, trimmed-escaped, pipes-escaped}
use Rattle.md_safe.proofs.Spot.{Here, Prints, Setting, Inside}
use Rattle.std.proofs.lemmas.Bool.{cond_both}

-- spans whose tags stand around their children, and the names of these tags
abbrev pub pair_tag : Name → List ℕ
pair_tag name = elim name [
  | Emphasis ↦ codes "em"
  | Strong ↦ codes "strong"
  | GfmStrikethrough ↦ codes "del"
  | _ ↦ []
]

abbrev pub is_pair : Name → Bool
is_pair name = elim (pair_tag name) [ [] ↦ false | _ ↦ true ]

pub by_pair : (Q : List ℕ → Type 0) → Q (codes "em") → Q (codes "strong") → Q (codes "del") →
    (name : Name) → is_pair name ≡ true → Q (pair_tag name)
by_pair Q em strong del name is = grind arith

-- code and math in a line
abbrev pub is_code : Name → Bool
is_code name = elim name [ CodeText ↦ true | MathText ↦ true | _ ↦ false ]

abbrev pub is_math : Name → Bool
is_math name = elim name [ MathText ↦ true | _ ↦ false ]

abbrev pub code_opening : Bool → List ℕ
code_opening math =
    cond math (codes "<code class=\"language-math math-inline\">") (codes "<code>")

pub pair-prints : (context : Context) (t : At) (name : Name) → is_pair name ≡ true →
    (inner : List Piece) → prints context t name inner ≡ span t
    (said (60 ∷ (pair_tag name ++ (62 ∷ [])))) inner (said (60 ∷ 47 ∷ (pair_tag name ++ (62 ∷ []))))
pair-prints context t name is inner = grind arith

-- a content that is allowed in a pair of tags is allowed around it too
pub pair-inside : (s : Setting) (t : At) (content : Content) (name : Name) → is_pair name ≡ true →
    (inner : List Piece) → Inside s t content name inner → Prints s (Here s t content) inner
pair-inside s t content name is inner a = grind arith

pub code-prints : (context : Context) (t : At) (name : Name) → is_code name ≡ true →
    (inner : List Piece) → prints context t name inner ≡ code t
    (code_opening (is_math name)) (layout context.ending inner)
code-prints context t name is inner = grind arith

-- the text of code as it is shown
abbrev pub shown_in : At → List ℕ → List ℕ
shown_in t x = trimmed (cond t.around.in_table (without_escapes x) x)

pub shown-escaped : (t : At) (x : List ℕ) → Escaped x → Escaped (shown_in t x)
shown-escaped t x h = grind (arith, trimmed-escaped, cond_both, pipes-escaped)

-- the text in code
pub code-text : (s : Setting) (t : At) (content : Content) (name : Name) →
    t.around.is_escaping ≡ true → is_code name ≡ true → (inner : List Piece) →
    Inside s t content name inner → Escaped (layout s.context.ending inner)
code-text s t content name e is inner a = grind arith

-- an autolink: what is before its text in its address, and where it is plain
abbrev pub autolink_prefix : Name → List ℕ
autolink_prefix name = elim name [
  | AutolinkEmail ↦ codes "mailto:"
  | GfmAutolinkLiteralEmail ↦ codes "mailto:"
  | GfmAutolinkLiteralWww ↦ codes "http://"
  | _ ↦ []
]

abbrev pub is_plain_at : At → Name → Bool
is_plain_at t name =
    cond (prints_link name) t.around.in_image (t.around.in_image || t.around.in_link)

pub autolink-prints : (context : Context) (t : At) (name : Name) → is_autolink name ≡ true →
    (inner : List Piece) →
    prints context t name inner ≡ autolink context t (is_plain_at t name) (autolink_prefix name)
autolink-prints context t name is inner = grind arith
