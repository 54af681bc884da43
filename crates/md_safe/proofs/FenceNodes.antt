-- The nodes of code and math in lines print what may stand there: fences, and lines between them.
use Rattle.std.proofs.Common.{◌≡◌, ℕ, Bool, true, false, not, List, [], ◌∷◌, ◌++◌, refl, sym, arith}
use Rattle.std.proofs.Common.{ap, append_assoc, append-nil, codes}
use Rattle.std.specs.List.{list_any}
use Rattle.md_base.proofs.Lies.{lie}
use Rattle.md_base.specs.declared.event.Name.{Name}
use Rattle.md_base.specs.NameTests.{is_fence as fence_name}
use Rattle.md_pattern.specs.Looseness.{is_loose}
use Rattle.md_meaning.specs.Meaning.Inherited.{inside}
use Rattle.md_meaning.specs.Meaning.At.{Context, At}
use Rattle.md_meaning.specs.Meaning.Before.{is_first_fence}
use Rattle.md_meaning.specs.Meaning.Layout.{Piece, said, when}
use Rattle.md_meaning.specs.Meaning.Means.{prints}
use Rattle.md_content.specs.Built.{Content, FirstFence, FirstMathFence, Chunks, is_code_fence}
use Rattle.md_content.specs.Built.{is_math_fence, may_stand, content_of}
use Rattle.md_safe.proofs.Texts.{Escaped}
use Rattle.md_safe.proofs.Laid.{adds-append, adds-text, adds-weaker}
use Rattle.md_safe.proofs.RawElements.{IsRaw, raw, code_tag, math_tag}
use Rattle.md_safe.proofs.Contents.{Holds}
use Rattle.md_safe.proofs.Insides.{allowed_inside}
use Rattle.md_safe.proofs.Following.{same_fence}
use Rattle.md_safe.proofs.Spot.{Setting, IsFitAt, Prints, Inside}
use Rattle.md_safe.proofs.FlowNodes.{line-escaped}

abbrev pub IsNil : List ℕ → Type 0
IsNil x = x ≡ []

-- the end of a first fence
begun : (s : Setting) (has_fence : Bool) {holds within later : List ℕ → Type 0}
    {inner rest : List Piece} → ((x y : List ℕ) → within x → later y → holds (x ++ (62 ∷ y))) →
    has_fence ≡ false → Prints s within inner → Prints s later rest →
    Prints s holds ((inner ++ when (not has_fence) (said (codes ">"))) ++ rest)
begun s true both e a b = lie (sym e)
begun s false {holds} {later = later} {inner} {rest} both e a b = rw append_assoc (adds-append
    {g = λ w. (y : List ℕ) × (w ≡ 62 ∷ y) × later y} (λ x w f g. rw g.1 (both x g.0 f g.2)) a
    (adds-append (λ x y f g. (y, ap (λ x. x ++ y) f, g)) (adds-text {f = λ x. x ≡ codes ">"} refl)
    b))

-- the text of a fence, and its content
fence-prints : (context : Context) (t : At) (name : Name) → fence_name name ≡ true →
    (inner : List Piece) → prints context t name inner ≡ inner ++ when
    (is_first_fence t) (said (codes ">"))
fence-prints context t name is inner = grind arith

-- the pieces of the children, if the content of the node is known
pub inside-is : (s : Setting) (t : At) (content allowed_inside : Content) (name : Name)
    (inner : List Piece) →
    content_of name content ≡ allowed_inside → Inside s t content name inner →
    Prints s (Holds s.p (inside s.context.options (is_loose t.children) name t.around).is_escaping
    (inside s.context.options (is_loose t.children) name t.around).in_image allowed_inside) inner
inside-is s t content allowed_inside name inner e a = grind arith

pub code_fence-node : (s : Setting) (t : At) (name : Name) →
    list_any fence_name t.before.spine ≡ false → is_code_fence name ≡ true →
    (inner rest : List Piece) → Inside s t FirstFence name inner → Prints s Escaped rest →
    Prints s (IsRaw code_tag) (prints s.context t name inner ++ rest)
code_fence-node s t name e is inner rest a b =
    grind (arith, fence-prints, allowed_inside, begun, raw, inside-is)

pub math_fence-node : (s : Setting) (t : At) (name : Name) →
    list_any fence_name t.before.spine ≡ false → is_math_fence name ≡ true →
    (inner rest : List Piece) → Inside s t FirstMathFence name inner → Prints s Escaped rest →
    Prints s (IsRaw math_tag) (prints s.context t name inner ++ rest)
math_fence-node s t name e is inner rest a b =
    grind (arith, fence-prints, allowed_inside, begun, raw, inside-is)

pub line-node : (s : Setting) (t : At) (name : Name) → list_any fence_name t.before.spine ≡ true →
    may_stand Chunks name ≡ true → IsFitAt s t name → (inner : List Piece) →
    Inside s t Chunks name inner → Prints s Escaped (prints s.context t name inner)
line-node s t name e is fit inner a =
    grind (arith, line-escaped, same_fence, fence-prints, append-nil, adds-weaker)
