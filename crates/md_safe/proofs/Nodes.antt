-- A node of any content, before what is printed after it: the step of the induction
-- in `Forests.antt`.
use Rattle.std.proofs.Common.{◌≡◌, ℕ, Bool, true, false, not, ◌||◌, cond, List, [], ◌++◌, arith}
use Rattle.std.proofs.Common.{refl, ap, inl, inr, append-nil, codes}
use Rattle.md_base.proofs.Lies.{lie}
use Rattle.md_base.specs.declared.event.Name.{Name}
use Rattle.md_base.specs.declared.event.Name.TheVariants as name_variants
use name_variants.{CodeFencedFenceInfo}
use Rattle.md_text.proofs.EscapedLemmas.{escaped-append}
use Rattle.md_base.specs.NameTests.{is_transparent}
use Rattle.md_pattern.specs.Looseness.{is_loose}
use Rattle.md_meaning.specs.Meaning.Inherited.{inside}
use Rattle.md_meaning.specs.Meaning.At.{At}
use Rattle.md_meaning.specs.Meaning.Layout.{Piece, said}
use Rattle.md_meaning.specs.Meaning.Means.{prints}
use Rattle.md_content.specs.Built.{Content, Blocks, Spans, Strings, FirstFence, FirstMathFence}
use Rattle.md_content.specs.Built.{Chunks, InfoAndMeta, MetaAlone, Done, Nothing, Sources, is_part}
use Rattle.md_content.specs.Built.{is_source, is_autolink, may_stand, content_of, content_past}
use Rattle.md_content.specs.Built.{content_after, IsBuilt}
use Rattle.md_safe.proofs.Cases.{either, cases}
use Rattle.md_safe.proofs.Texts.{Escaped}
use Rattle.md_safe.proofs.Laid.{adds-append, adds-text, adds-nothing, adds-weaker, adds-any}
use Rattle.md_safe.proofs.Elements.{IsDone}
use Rattle.md_safe.proofs.Contents.{Holds, Follows}
use Rattle.md_safe.proofs.Insides.{is_blocks, Suits}
use Rattle.md_safe.proofs.Following.{second, later-inside}
use Rattle.md_safe.proofs.Spot.{IsWhole, Setting, IsFitAt, IsGoodTarget, Here, Prints, Inside}
use Rattle.md_safe.proofs.StringNodes.{string-node, is_text, text-node}
use Rattle.md_safe.proofs.SpanNodes.{is_shown, shown-in_image, autolink-in_image}
use Rattle.md_safe.proofs.FlowNodes.{Reads, is_leaf, leaf-escaped}
use Rattle.md_safe.proofs.FenceNodes.{IsNil, inside-is, code_fence-node, math_fence-node, line-node}
use Rattle.md_safe.proofs.BlockNodes.{is_hidden, hidden-prints, is_silent, silent-prints}
use Rattle.md_safe.proofs.ReadingNodes.{block-node}
use Rattle.md_safe.proofs.RawElements.{IsInfo, code_tag}

-- spans print nothing, or only their children, or one of these
span-sorts : (name : Name) → not (may_stand Spans name) || (is_hidden name || (is_silent name
    || (is_text name || (is_shown name || (is_leaf name || is_autolink name))))) ≡ true
span-sorts name = grind arith

span-any : (s : Setting) (t : At) (name : Name) → Suits t.around.is_escaping t.around.in_image
    Spans → may_stand Spans name ≡ true → IsFitAt s t name → (inner : List Piece) →
    Inside s t Spans name inner → Prints s Escaped (prints s.context t name inner)
span-any s t name suits stands fit inner a =
    let e = suits.escaped refl in
    let image = suits.image refl in
    either _ _ (rw stands at (span-sorts name)) (λ is. rw (hidden-prints s.context t name is inner)
    (adds-nothing refl)) (λ c. either _ _ c (λ is. rw (silent-prints s.context t name is inner)
    (inside-is s t Spans Spans name inner (grind arith) a))
    (grind (arith, text-node, shown-in_image, leaf-escaped, autolink-in_image)))

-- the info string
info-node : (s : Setting) (escaping : Bool) {inner rest : List Piece} → escaping ≡ true →
    Prints s (λ x. escaping ≡ true → Escaped x) inner → Prints s IsNil rest → Prints s
    (IsInfo code_tag) ((said (codes " class=\"language-") ++ (inner ++ said (codes "\""))) ++ rest)
info-node s escaping e a b = adds-append
    {f = λ w. (v : List ℕ) × (w ≡ codes " class=\"language-" ++ (v ++ codes "\"")) × Escaped v}
    {g = IsNil} (λ x y f g. rw (g, append-nil, f.1) (inr (f.0, refl, f.2, refl))) (adds-append {f =
    λ x. x ≡ codes " class=\"language-"} {g = λ w. (v : List ℕ) × (w ≡ v ++ codes "\"") × Escaped v}
    (grind arith) (adds-text refl) (adds-append (λ v y f g. (v, ap (λ y. v ++ y) g, f e)) a
    (adds-text {f = λ x. x ≡ codes "\""} refl))) b

in_code-nil : (s : Setting) {rest : List Piece} → Prints s IsNil rest →
    Prints s (IsInfo code_tag) rest
in_code-nil s b = adds-weaker (λ x e. inl e) b

info_or_meta-node : (s : Setting) (t : At) (name : Name) → t.around.is_escaping ≡ true →
    may_stand InfoAndMeta name ≡ true → (inner rest : List Piece) →
    Inside s t InfoAndMeta name inner → Prints s (Here s t (content_past InfoAndMeta name)) rest →
    Prints s (IsInfo code_tag) (prints s.context t name inner ++ rest)
info_or_meta-node s t CodeFencedFenceInfo e is inner rest a b = info-node s _ e a b
info_or_meta-node s t name e is inner rest a b = grind (arith, in_code-nil)

done-node : (s : Setting) (t : At) (name : Name) → may_stand Done name ≡ true →
    (inner rest : List Piece) → Prints s IsNil rest → Prints s
    (IsDone t.around.in_image) (prints s.context t name inner ++ rest)
done-node s t name is inner rest b = grind (arith, adds-append, append-nil, adds-nothing, adds-text)

-- a node among blocks is no part of another node
pub not_part : (part : Bool) → cond part false true ≡ true → part ≡ false
not_part part h = grind arith

-- the facts about a node besides the pieces of its children: its place, the text of a heading
-- before it, and the target of a resource in it
pub record Knows (s : Setting) (t : At) (content : Content) (name : Name) : Type 0 where
  pub fit : IsFitAt s t name
  pub suits : Suits t.around.is_escaping t.around.in_image content
  pub follows : Follows content t.before.spine
  pub whole : is_blocks content ≡ true → IsWhole s.p
  pub heading : is_blocks content ≡ true → Reads s t.before.heading
  pub resource : IsGoodTarget t.found.resource

-- a node that isn't transparent, and what is printed after it
pub solid-node : (s : Setting) (t : At) (content : Content) (name : Name) →
    is_transparent name ≡ false → may_stand content name ≡ true → Knows s t content name →
    (inner rest : List Piece) → Inside s t content name inner →
    Prints s (Here s t (content_past content name)) rest → Prints s
    (Here s t content) (prints s.context t name inner ++ rest)
solid-node s t Blocks name solid stands k inner rest a b = adds-append (k.whole refl).both
    (block-node s t name solid (not_part (is_part name || is_source name) stands) inner (grind
    arith)) b
solid-node s t Spans name solid stands k inner rest a b = adds-append escaped-append
    (span-any s t name k.suits stands k.fit inner a) b
solid-node s t Strings name solid stands k inner rest a b = adds-append
    (λ x y f g e. escaped-append x y (f e) (g e)) (string-node s t Strings name (λ x h. h) stands
    k.fit inner a) b
solid-node s t FirstFence name solid stands k inner rest a b = code_fence-node s t name k.follows
    stands inner rest a b
solid-node s t FirstMathFence name solid stands k inner rest a b = grind (arith, math_fence-node)
solid-node s t Chunks name solid stands k inner rest a b = adds-append escaped-append
    (line-node s t name k.follows stands k.fit inner a) b
solid-node s t InfoAndMeta name solid stands k inner rest a b = info_or_meta-node s t name
    (k.suits.escaped refl) stands inner rest a b
solid-node s t MetaAlone name solid stands k inner rest a b = grind arith
solid-node s t Done name solid stands k inner rest a b = done-node s t name stands inner rest b
solid-node s t Nothing name solid stands k inner rest a b = lie stands
solid-node s t Sources name solid stands k inner rest a b = adds-any s.context.ending
    (prints s.context t name inner ++ rest)

-- what children print before any other pieces
abbrev pub Before : Setting → At → Content → Name → List Piece → Type 0
Before s t content name inner =
    (rest : List Piece) →
    Prints s (Holds s.p (inside s.context.options (is_loose t.children) name t.around).is_escaping
    (inside s.context.options (is_loose t.children) name t.around).in_image
    (content_after content t.children)) rest
    → Prints s (Holds s.p (inside s.context.options (is_loose t.children) name t.around).is_escaping
    (inside s.context.options (is_loose t.children) name t.around).in_image content) (inner ++ rest)

through-node : (s : Setting) (t : At) (content : Content) (name : Name) →
    is_transparent name ≡ true →
    (inner rest : List Piece) → Before s t content name inner →
    Prints s (Here s t (content_after content t.children)) rest →
    Prints s (Here s t content) (prints s.context t name inner ++ rest)
through-node s t content name is inner rest a b = grind arith

-- what a node that isn't transparent holds
pub inside-alone : (s : Setting) (t : At) (content : Content) (name : Name) →
    may_stand content name ≡ true → IsFitAt s t name → IsBuilt s.context.bytes
    (content_of name content) t.children → (inner : List Piece) →
    Before s t (content_of name content) name inner → Inside s t content name inner
inside-alone s t content name stands fit built inner a =
    let later = later-inside s.context.bytes content name t.place.start t.place.end t.children
    stands fit built in
    rw (append-nil inner) at (a [] (adds-nothing (grind arith)))

-- a node, and what is printed after it
pub any-node : (s : Setting) (t : At) (content : Content) (name : Name) →
    (is_transparent name || may_stand content name) ≡ true → Knows s t content name →
    (inner rest : List Piece) → IsBuilt s.context.bytes (cond (is_transparent name) content
    (content_of name content)) t.children → Before s t (cond (is_transparent name) content
    (content_of name content)) name inner → Prints s (Here s t (cond (is_transparent name)
    (content_after content t.children) (content_past content name))) rest →
    Prints s (Here s t content) (prints s.context t name inner ++ rest)
any-node s t content name stands k inner rest built a b = cases (is_transparent name)
    (λ e. through-node s t content name e inner rest (rw e at a) (rw e at b)) (λ e.
    let may : may_stand content name ≡ true = second _ _ e stands in
    solid-node s t content name e may k inner rest (inside-alone s t content name may k.fit (rw e at
    built) inner (rw e at a)) (rw e at b))
