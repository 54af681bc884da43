-- Blocks leave no element open, and open two at most beside what their children open.
use Rattle.std.specs.List.{list_any, flat_map}
use Rattle.std.proofs.Common.{◌≡◌, ℕ, ◌+◌, ◌≤◌, zero, suc, Bool, true, not, cond, List, [], ◌∷◌}
use Rattle.std.proofs.Common.{◌++◌, refl, arith, codes, drop}
use Rattle.std.specs.Prelude.{Some, None, bytes_eq, count_by, slice_get}
use Rattle.std.specs.Option.{option_map_or}
use Rattle.std.specs.Fmt.{digits}
use Rattle.md_base.proofs.Lies.{lie}
use Rattle.md_base.specs.declared.event.AlignKind.{AlignKind}
use Rattle.md_base.specs.declared.event.Name.{Name}
use Rattle.md_base.specs.declared.event.Name.TheVariants as name_variants
use name_variants.{BlockQuote, ListOrdered, ListUnordered, ListItem, Paragraph, ThematicBreak}
use name_variants.{HeadingAtx, HeadingSetextUnderlineSequence, CodeIndented, CodeFenced, MathFlow}
use name_variants.{HtmlFlow, GfmTable, GfmTableHead, GfmTableBody, GfmTableRow, GfmTableCell}
use Rattle.md_base.specs.Is.{is as named}
use Rattle.md_base.specs.Children.{spine_names}
use Rattle.md_base.specs.NameTests.{is_chunk}
use Rattle.md_text.proofs.HtmlNames.{escaped-angle}
use Rattle.md_text.proofs.HtmlAngles.{all-append}
use Rattle.md_meaning.specs.Meaning.At.{At, text_in}
use Rattle.md_meaning.specs.Meaning.Inherited.{is_tight}
use Rattle.md_meaning.specs.Meaning.Finds.{number_in_list}
use Rattle.md_meaning.specs.Meaning.Layout.{Piece, Text, layout}
use Rattle.md_meaning.specs.Meaning.Means.{prints}
use Rattle.md_meaning.specs.Meaning.Blocks.{without_zeros, ends_in_line, heading_tag, heading}
use Rattle.md_meaning.specs.Meaning.Blocks.{atx_rank, underline_rank, code_end, runs_out}
use Rattle.md_meaning.specs.Meaning.Blocks.{is_unclosed, fenced}
use Rattle.md_meaning.specs.Meaning.Spans.{is_at}
use Rattle.md_meaning.specs.Meaning.Tables.{align_attribute, cell_of}
use Rattle.md_content.specs.Underlined.{is_underline}
use Rattle.md_content.specs.Built.{Blocks}
use Rattle.md_safe.proofs.Texts.{Escaped, zeros-escaped}
use Rattle.md_safe.proofs.Laid.{adds-weaker}
use Rattle.md_safe.proofs.RawElements.{IsRaw, code_tag, math_tag}
use Rattle.md_safe.proofs.Spot.{Setting, IsFitAt, Prints, Inside}
use Rattle.md_safe.proofs.FlowNodes.{is_flow, setext-fits}
use Rattle.md_safe.proofs.BlockNodes.{is_tabular}
use Rattle.md_depth.proofs.Machine.{Leads, ◌▹◌, leads-open, leads-close, leads-quiet}
use Rattle.md_depth.proofs.Moves as moves
use Rattle.md_depth.proofs.Moves.{Moves, ◌▸◌, none, needed, forced, adds-quiet, more, laid, plain}
use Rattle.md_depth.proofs.Moves.{part, IsOpening, IsClosing, open_tag, close_tag, void_tag, kept}
use Rattle.md_depth.proofs.Moves.{open_line, close_line, choose}
use Rattle.md_depth.proofs.SpanMoves.{Room, Below}

-- ---- headings

heading-tags : (rank : ℕ) → 1 ≤ rank → rank ≤ 6 →
    IsOpening (heading_tag (codes "<h") rank) × IsClosing (heading_tag (codes "</h") rank)
unfolding digits
heading-tags zero low high = absurd (omega arith)
heading-tags rank low high = grind arith

heading-moves : {e : List ℕ} {n m : ℕ} (rank : ℕ) → Escaped e → suc m ≤ n → 1 ≤ rank → rank ≤ 6 →
    {inner : List Piece} → Moves e m 0 0 inner → Moves e n 0 0 (heading rank inner)
heading-moves rank h room low high a =
    open_line (heading_tag (codes "<h") rank) h (heading-tags rank low high).0
    (omega arith)
    ▸ more (omega arith) a
    ▸ close_tag (heading_tag (codes "</h") rank) (heading-tags rank low high).1

-- ---- code

code-opens : {e : List ℕ} {n : ℕ} → suc 1 ≤ n → (second : List ℕ) → IsOpening second →
    Moves e n 0 2 (Text (codes "<pre>" ++ second) ∷ [])
code-opens room second opens =
    moves.text (leads-open (codes "<pre>") (λ l t. refl) (omega arith)
    ▹ leads-open second opens room)

end-moves : {e : List ℕ} {n : ℕ} (t : At) → Escaped e → Moves e n 2 0 (code_end t)
end-moves t h =
    choose (list_any is_chunk (spine_names t.children)) (needed h) none
    ▸ moves.text (leads-close (codes "</code>") (λ l t. refl)
    ▹ leads-close (codes "</pre>") (λ l t. refl))

fenced-moves : (s : Setting) (t : At) (n : ℕ) → suc 1 ≤ n → (tag second : List ℕ) →
    tag ≡ codes "<pre>" ++ second → IsOpening second → (inner : List Piece) →
    Prints s (IsRaw tag) inner → Moves s.context.ending n 0 0 (fenced t tag inner)
fenced-moves s t n room tag second is opens inner a =
    let e : List ℕ = s.context.ending in
    let inside : Moves e n 2 2 inner =
    adds-quiet inner (adds-weaker (λ x raw. grind (arith, all-append, escaped-angle, raw)) a) in
    let first : Moves e n 0 2 (Text tag ∷ []) = rw is (code-opens room second opens) in
    (needed s.ending ▸ first) ▸ inside ▸ choose (runs_out t) (forced s.ending) none
    ▸ end-moves t s.ending ▸ choose (is_unclosed t) (needed s.ending) none

-- ---- blocks with tags or raw text

pub flow-moves : (s : Setting) (t : At) (m n : ℕ) → Room m n → (name : Name) →
    is_flow name ≡ true → IsFitAt s t name →
    (is_underline name ≡ true → (k : ℕ) × (suc k ≤ n) × Leads 0 0 k t.before.heading) →
    (inner : List Piece) → Inside s t Blocks name inner → Below s m name inner →
    Moves s.context.ending n 0 0 (prints s.context t name inner)
flow-moves s t m n room BlockQuote is fit head inner a below =
    open_line (codes "<blockquote>") s.ending (λ l t. refl) (omega arith)
    ▸ more (omega arith) (below refl)
    ▸ close_line (codes "</blockquote>") s.ending (λ l t. refl)
flow-moves s t m n room ListOrdered is fit head inner a below =
    let first : List ℕ =
    option_map_or (text_in s.context.bytes) (number_in_list t.children) (codes "1") in
    open_line (codes "<ol") s.ending (λ l t. refl) (omega arith)
    ▸ choose (not (bytes_eq (without_zeros first) (codes "1"))) (part (codes " start=\"") refl
    ▸ plain (without_zeros first) (zeros-escaped first (grind (arith, fit)))
    ▸ part (codes "\"") refl) none
    ▸ part (codes ">") refl ▸ more (omega arith) (below refl)
    ▸ forced s.ending ▸ close_tag (codes "</ol>") (λ l t. refl)
flow-moves s t m n room ListUnordered is fit head inner a below =
    open_line (codes "<ul>") s.ending (λ l t. refl) (omega arith)
    ▸ more (omega arith) (below refl)
    ▸ forced s.ending ▸ close_tag (codes "</ul>") (λ l t. refl)
flow-moves s t m n room ListItem is fit head inner a below =
    open_line (codes "<li>") s.ending (λ l t. refl) (omega arith)
    ▸ more (omega arith) (below refl)
    ▸ choose (ends_in_line t) none (needed s.ending) ▸ close_tag (codes "</li>") (λ l t. refl)
flow-moves s t m n room Paragraph is fit head inner a below =
    choose (is_tight t.around.container) (more (omega arith) (below refl))
    (open_line (codes "<p>") s.ending (λ l t. refl) (omega arith)
    ▸ more (omega arith) (below refl) ▸ close_tag (codes "</p>") (λ l t. refl))
flow-moves s t m n room ThematicBreak is fit head inner a below =
    needed s.ending
    ▸ void_tag (codes "<hr />") (λ l t. refl) (omega arith)
flow-moves s t m n room HeadingAtx is fit head inner a below =
    heading-moves (atx_rank t) s.ending (omega arith) fit.0 fit.1 (below refl)
flow-moves s t m n room HeadingSetextUnderlineSequence is fit head inner a below =
    let waits = head refl in
    let rank = setext-fits (is_at 45 s.context.bytes t.place.start.index) in
    heading-moves (underline_rank s.context t) s.ending waits.1 rank.0 rank.1 (moves.text waits.2)
flow-moves s t m n room CodeIndented is fit head inner a below =
    (needed s.ending ▸ code-opens (omega arith) (codes "<code>") (λ l t. refl))
    ▸ more (omega arith) (below refl) ▸ end-moves t s.ending
flow-moves s t m n room CodeFenced is fit head inner a below =
    fenced-moves s t n (omega arith) code_tag (codes "<code") refl (λ l t. refl) inner a
flow-moves s t m n room MathFlow is fit head inner a below =
    fenced-moves s t n (omega arith) math_tag
    (codes "<code class=\"language-math math-display\"") refl (λ l t. refl) inner a
flow-moves s t m n room HtmlFlow is fit head inner a below =
    needed s.ending
    ▸ more (omega arith) (below refl)
flow-moves s t m n room _ is fit head inner a below = lie is

-- ---- tables

cell-moves : {e : List ℕ} {n a k : ℕ} {x : List ℕ} → Escaped e → (in_head : Bool) →
    Leads 0 0 k x → suc (a + k) ≤ n → (kind : AlignKind) → Moves e n a a (cell_of in_head x kind)
cell-moves h in_head f room kind =
    open_line (cond in_head (codes "<th") (codes "<td")) h (λ l t. grind arith) (omega arith)
    ▸ part (align_attribute kind) (grind arith)
    ▸ part (codes ">") refl ▸ kept f (omega arith)
    ▸ close_tag (cond in_head (codes "</th>") (codes "</td>")) (λ l t. grind arith)

cells-moves : {e : List ℕ} {n a : ℕ} → Escaped e → (in_head : Bool) → suc a ≤ n →
    (kinds : List AlignKind) → Moves e n a a (flat_map (cell_of in_head []) kinds)
cells-moves h in_head room [] = none
cells-moves h in_head room (kind ∷ kinds) =
    cell-moves {k = 0} h in_head (leads-quiet [] refl) (omega arith) kind
    ▸ cells-moves h in_head room kinds

pub table-moves : (s : Setting) (t : At) (m n : ℕ) → Room m n → (name : Name) →
    is_tabular name ≡ true → (inner : List Piece) → Below s m name inner →
    Moves s.context.ending n 0 0 (prints s.context t name inner)
table-moves s t m n room GfmTable is inner below =
    open_line (codes "<table>") s.ending (λ l t. refl) (omega arith)
    ▸ more (omega arith) (below refl)
    ▸ close_line (codes "</table>") s.ending (λ l t. refl)
table-moves s t m n room GfmTableHead is inner below =
    open_line (codes "<thead>") s.ending (λ l t. refl) (omega arith)
    ▸ more (omega arith) (below refl)
    ▸ close_line (codes "</thead>") s.ending (λ l t. refl)
table-moves s t m n room GfmTableBody is inner below =
    open_tag (codes "<tbody>") (λ l t. refl) (omega arith)
    ▸ more (omega arith) (below refl)
    ▸ close_line (codes "</tbody>") s.ending (λ l t. refl)
table-moves s t m n room GfmTableRow is inner below =
    let kinds : List AlignKind =
    drop (count_by (named GfmTableCell) (spine_names t.children)) t.before.columns in
    open_line (codes "<tr>") s.ending (λ l t. refl) (omega arith)
    ▸ more (omega arith) (below refl)
    ▸ cells-moves s.ending t.around.in_head (omega arith) kinds
    ▸ close_line (codes "</tr>") s.ending (λ l t. refl)
table-moves s t m n room GfmTableCell is inner below =
    let x : List ℕ = layout s.context.ending inner in
    elim (slice_get t.before.columns (count_by (named GfmTableCell) t.before.spine))
    as (λ kind. Moves s.context.ending n 0 0
    (option_map_or (λ kind. cell_of t.around.in_head x kind) kind [])) [
      | None ↦ none
      | Some kind ↦ cell-moves s.ending t.around.in_head (laid (below refl)) (omega arith) kind
    ]
table-moves s t m n room _ is inner below = lie is
