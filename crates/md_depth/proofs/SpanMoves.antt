-- Spans leave no element open, and open two at most beside what their children open.
use Rattle.std.proofs.Common.{◌≡◌, ℕ, ◌≤◌, suc, Bool, true, not, cond, List, [], ◌++◌, refl, inl}
use Rattle.std.proofs.Common.{inr, arith, codes}
use Rattle.std.specs.Prelude.{Option, Some, None}
use Rattle.std.specs.Fmt.{decimal}
use Rattle.std.proofs.lemmas.Bool.{or_cases}
use Rattle.md_base.proofs.Lies.{lie}
use Rattle.md_base.specs.declared.event.Name.{Name}
use Rattle.md_base.specs.declared.event.Name.TheVariants as name_variants
use name_variants.{Link, Image, HardBreakEscape, HardBreakTrailing, GfmTaskListItemCheck}
use name_variants.{GfmFootnoteCall, AutolinkEmail, AutolinkProtocol, GfmAutolinkLiteralEmail}
use name_variants.{GfmAutolinkLiteralMailto, GfmAutolinkLiteralProtocol, GfmAutolinkLiteralWww}
use name_variants.{GfmAutolinkLiteralXmpp}
use Rattle.md_text.specs.declared.options.CompileOptions.{CompileOptions}
use Rattle.md_text.specs.Encode.{encoded}
use Rattle.md_text.proofs.EncodeLaws.{is_escaped-encoded}
use Rattle.md_text.proofs.EscapedLemmas.{sanitized-escaped, sanitized_with-escaped}
use Rattle.md_meaning.specs.Meaning.At.{Target, At, text_in, identifier_of}
use Rattle.md_meaning.specs.Meaning.Layout.{Piece, layout, said}
use Rattle.md_meaning.specs.Meaning.Means.{prints}
use Rattle.md_meaning.specs.Meaning.Spans.{span, task_start, code, trimmed, without_escapes}
use Rattle.md_meaning.specs.Meaning.Media.{href, src, title_attribute, anchor, picture, leads_to}
use Rattle.md_meaning.specs.Meaning.Media.{autolink}
use Rattle.md_meaning.specs.Meaning.Footnotes.{id_of, call_id, place_among, distinct, count_of}
use Rattle.md_content.specs.Built.{Blocks, content_of, is_autolink}
use Rattle.md_safe.proofs.Texts.{Escaped, pipes-escaped, trimmed-escaped, decimal-escaped}
use Rattle.md_safe.proofs.Laid.{adds-weaker, adds-alone}
use Rattle.md_safe.proofs.Media.{IsEscapedTitle}
use Rattle.md_safe.proofs.Calls.{id-escaped, call_id-escaped, call_tags}
use Rattle.md_safe.proofs.Elements.{IsDone}
use Rattle.md_safe.proofs.Insides.{is_blocks}
use Rattle.md_safe.proofs.Spot.{Setting, Prints, Inside, IsGoodTarget, target-title}
use Rattle.md_safe.proofs.SpanNodes.{is_single, is_shown}
use Rattle.md_safe.proofs.SpanSorts.{is_pair, by_pair, pair-prints, is_code, is_math, code_opening}
use Rattle.md_safe.proofs.SpanSorts.{code-prints, code-text}
use Rattle.md_depth.proofs.Machine.{Leads, ◌▹◌, leads-open, leads-close}
use Rattle.md_depth.proofs.Moves as moves
use Rattle.md_depth.proofs.Moves.{Moves, ◌▸◌, none, adds-quiet, more, laid, plain, part, IsOpening}
use Rattle.md_depth.proofs.Moves.{IsClosing, open_tag, close_tag, void_tag, kept, choose}

-- the bound with two more
abbrev pub Room : ℕ → ℕ → Type 0
Room m n = suc (suc m) ≤ n

around : (e : List ℕ) (m n : ℕ) → Room m n → (in_image : Bool) (o c : List ℕ) → IsOpening o →
    IsClosing c → (inner : List Piece) → Moves e m 0 0 inner →
    Moves e n 0 0 (cond in_image inner (said o ++ (inner ++ said c)))
around e m n room in_image o c opens closes inner a =
    choose in_image (more (omega arith) a)
    (open_tag o opens (omega arith) ▸ more (omega arith) a ▸ close_tag c closes)

-- ---- links and images

title-moves : {e : List ℕ} {n a : ℕ} (title : Option (List ℕ)) → IsEscapedTitle title →
    Moves e n a a (title_attribute title)
title-moves None h = none
title-moves (Some x) h =
    part (codes " title=\"") refl ▸ plain x h ▸ part (codes "\"") refl

anchor-moves : (e : List ℕ) (m n : ℕ) → Room m n → (options : CompileOptions) (target : Target) →
    IsEscapedTitle target.title → (label : List ℕ) → Leads 0 0 m label →
    Moves e n 0 0 (anchor options target label)
anchor-moves e m n room options target title label f =
    open_tag (codes "<a href=\"") (λ l t. refl) (omega arith)
    ▸ plain (href options target.destination)
    (grind (arith, sanitized-escaped, sanitized_with-escaped))
    ▸ part (codes "\"") refl ▸ title-moves target.title title
    ▸ part (codes ">") refl ▸ kept f (omega arith)
    ▸ close_tag (codes "</a>") (λ l t. refl)

picture-moves : (e : List ℕ) (m n : ℕ) → Room m n → (options : CompileOptions) (target : Target) →
    IsEscapedTitle target.title → (label : List ℕ) → Escaped label →
    Moves e n 0 0 (picture options target label)
picture-moves e m n room options target title label h =
    void_tag (codes "<img src=\"") (λ l t. refl) (omega arith)
    ▸ plain (src options target.destination)
    (grind (arith, sanitized-escaped, sanitized_with-escaped))
    ▸ part (codes "\" alt=\"") refl ▸ plain label h ▸ part (codes "\"") refl
    ▸ title-moves target.title title ▸ part (codes " />") refl

-- ---- code

code-moves : (e : List ℕ) (m n : ℕ) → Room m n → (t : At) (math : Bool) (x : List ℕ) → Escaped x →
    Moves e n 0 0 (code t (code_opening math) x)
code-moves e m n room t math x h =
    let unescaped : List ℕ = cond t.around.in_table (without_escapes x) x in
    let shown : List ℕ = trimmed unescaped in
    let all : Escaped shown = trimmed-escaped unescaped (grind (arith, pipes-escaped, h)) in
    choose t.around.in_image (plain shown all)
    (open_tag (code_opening math) (λ l t. grind arith) (omega arith) ▸ plain shown all
    ▸ close_tag (codes "</code>") (λ l t. refl))

-- ---- calls, breaks and tasks

call-moves : (e : List ℕ) (m n : ℕ) → Room m n → (options : CompileOptions)
    (identifier : List ℕ) (number occurrence : ℕ) →
    Moves e n 0 0 (call_tags options identifier number occurrence)
call-moves e m n room options identifier number occurrence =
    moves.text (leads-open (codes "<sup>") (λ l t. refl) (omega arith)
    ▹ leads-open (codes "<a href=\"#") (λ l t. refl) (omega arith))
    ▸ plain (id_of options (codes "fn-") identifier number)
    (id-escaped options (codes "fn-") identifier number refl)
    ▸ part (codes "\" id=\"") refl
    ▸ plain (call_id options identifier number occurrence)
    (call_id-escaped options identifier number occurrence)
    ▸ part (codes "\" data-footnote-ref=\"\" aria-describedby=\"footnote-label\">") refl
    ▸ plain (decimal number) (decimal-escaped number)
    ▸ moves.text (leads-close (codes "</a>") (λ l t. refl)
    ▹ leads-close (codes "</sup>") (λ l t. refl))

task-moves : (s : Setting) (t : At) (m n : ℕ) → Room m n → (inner : List Piece) →
    Prints s (IsDone t.around.in_image) inner →
    Moves s.context.ending n 0 0 (span t (task_start s.context) inner (said (codes "/>")))
task-moves s t m n room inner a =
    let mark : Moves s.context.ending n 0 0 inner =
    adds-quiet inner (adds-weaker (λ x done. grind arith) a) in
    choose t.around.in_image mark
    ((void_tag (codes "<input type=\"checkbox\" ") (λ l t. refl) (omega arith)
    ▸ choose (not s.context.options.gfm_task_list_item_checkable)
    (part (codes "disabled=\"\" ") refl) none) ▸ mark ▸ part (codes "/>") refl)

-- ---- each span

abbrev pub Below : Setting → ℕ → Name → List Piece → Type 0
Below s m name inner = is_blocks (content_of name Blocks) ≡ true → Moves s.context.ending m 0 0
    inner

pair-moves : (s : Setting) (t : At) (m n : ℕ) → Room m n → (name : Name) → is_pair name ≡ true →
    (inner : List Piece) → Below s m name inner →
    Moves s.context.ending n 0 0 (prints s.context t name inner)
pair-moves s t m n room name is inner below = grind (arith, pair-prints, around, by_pair)

single-moves : (s : Setting) (t : At) (m n : ℕ) → Room m n → (name : Name) →
    is_single name ≡ true → IsGoodTarget t.found.resource → (inner : List Piece) →
    Inside s t Blocks name inner → Below s m name inner →
    Moves s.context.ending n 0 0 (prints s.context t name inner)
single-moves s t m n room Link is good inner a below =
    let f : Leads 0 0 m (layout s.context.ending inner) = laid (below refl) in
    grind (arith, choose, kept, anchor-moves, target-title)
single-moves s t m n room Image is good inner a below =
    let label : List ℕ = layout s.context.ending inner in
    let h : Escaped label = adds-alone a in
    choose t.around.in_image (plain label h)
    (picture-moves s.context.ending m n room s.context.options (leads_to s.context t)
    (target-title s t good) label h)
single-moves s t m n room HardBreakEscape is good inner a below =
    choose (not t.around.in_image) (void_tag (codes "<br />") (λ l t. refl) (omega arith)) none
single-moves s t m n room HardBreakTrailing is good inner a below =
    choose (not t.around.in_image) (void_tag (codes "<br />") (λ l t. refl) (omega arith)) none
single-moves s t m n room GfmTaskListItemCheck is good inner a below =
    task-moves s t m n room inner a
single-moves s t m n room GfmFootnoteCall is good inner a below =
    let identifier : List ℕ = identifier_of s.context.bytes t.children in
    let number : ℕ = place_among (distinct s.context.calls) identifier in
    let occurrence : ℕ = suc (count_of t.calls identifier) in
    choose (not t.around.in_image)
    (call-moves s.context.ending m n room s.context.options identifier number occurrence) none
single-moves s t m n room _ is good inner a below = lie is

pub span-moves : (s : Setting) (t : At) (m n : ℕ) → Room m n → (name : Name) →
    t.around.is_escaping ≡ true → is_shown name ≡ true → IsGoodTarget t.found.resource →
    (inner : List Piece) → Inside s t Blocks name inner → Below s m name inner →
    Moves s.context.ending n 0 0 (prints s.context t name inner)
span-moves s t m n room name e is good inner a below = elim (or_cases (is_pair name) _ is) [
  | inl is ↦ pair-moves s t m n room name is inner below
  | inr c ↦ elim (or_cases (is_code name) (is_single name) c) [
    | inl is ↦ rw (code-prints s.context t name is inner)
        (code-moves s.context.ending m n room t (is_math name) (layout s.context.ending inner)
        (code-text s t Blocks name e is inner a))
    | inr is ↦ single-moves s t m n room name is good inner a below
  ]
]

link-moves : (s : Setting) (t : At) (m n : ℕ) → Room m n → (prefix : List ℕ) (plainly : Bool) →
    Moves s.context.ending n 0 0 (autolink s.context t plainly prefix)
link-moves s t m n room prefix plainly =
    let x : List ℕ = encoded true (text_in s.context.bytes t.place) in
    let h : Escaped x = is_escaped-encoded (text_in s.context.bytes t.place) in
    let led : Target = record {
      destination = prefix ++ text_in s.context.bytes t.place;
      title = None;
    } in
    choose plainly (plain x h)
    (anchor-moves s.context.ending m n room s.context.options led tt x
    (laid {e = s.context.ending} (plain x h)))

pub autolink-moves : (s : Setting) (t : At) (m n : ℕ) → Room m n → (name : Name) →
    is_autolink name ≡ true → (inner : List Piece) →
    Moves s.context.ending n 0 0 (prints s.context t name inner)
autolink-moves s t m n room AutolinkEmail is inner = link-moves s t m n room (codes "mailto:") _
autolink-moves s t m n room AutolinkProtocol is inner = link-moves s t m n room [] _
autolink-moves s t m n room GfmAutolinkLiteralEmail is inner =
    link-moves s t m n room (codes "mailto:") _
autolink-moves s t m n room GfmAutolinkLiteralMailto is inner = link-moves s t m n room [] _
autolink-moves s t m n room GfmAutolinkLiteralProtocol is inner = link-moves s t m n room [] _
autolink-moves s t m n room GfmAutolinkLiteralWww is inner =
    link-moves s t m n room (codes "http://") _
autolink-moves s t m n room GfmAutolinkLiteralXmpp is inner = link-moves s t m n room [] _
autolink-moves s t m n room _ is inner = lie is
