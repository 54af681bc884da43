-- What stands among blocks, in lists and in tables: each node prints the content that stands where
-- it is.
use Rattle.md_safe.proofs.Stands.{is_spaced}
use Rattle.md_base.specs.Children.{spine_names}
use Rattle.std.proofs.Common.{drop, Bool, List, ap, append_assoc, codes, cond, false, inl, inr, not}
use Rattle.std.proofs.Common.{refl, sym, true, ℕ, ◌&&◌, ◌++◌, ◌||◌, ◌∙◌, ◌∷◌, ◌≡◌, ◌≤◌, [], subst}
use Rattle.std.proofs.Common.{arith}
use Rattle.std.specs.Fmt.{digits}
use Rattle.std.specs.List.{flat_map, list_all}
use Rattle.std.specs.Prelude.{None, Option, Some, bytes_eq, count_by, slice_get}
use Rattle.md_base.specs.declared.event.Name.TheVariants as name_variants
use name_variants.{BlankLineEnding, BlockQuote, CodeFlowChunk, CodeIndented, GfmTable, GfmTableBody}
use name_variants.{GfmTableCell, GfmTableDelimiterRow, GfmTableHead, GfmTableRow, HeadingAtx}
use name_variants.{HeadingSetextUnderlineSequence, HtmlFlow, LineEnding, ListItem, ListOrdered}
use name_variants.{ListUnordered, Paragraph, ThematicBreak}
use Rattle.md_base.proofs.Lies.{lie}
use Rattle.md_base.specs.Is.{is as named}
use Rattle.md_base.specs.NameTests.{is_transparent}
use Rattle.md_base.specs.declared.event.AlignKind.{AlignKind}
use Rattle.md_base.specs.declared.event.Name.{Name}
use Rattle.md_content.specs.Built.{Blocks, FirstFence, FirstMathFence, is_part, is_source}
use Rattle.md_meaning.specs.Meaning.At.{At}
use Rattle.md_meaning.specs.Meaning.Blocks.{atx_rank, ends_in_line, fenced, heading, heading_tag}
use Rattle.md_meaning.specs.Meaning.Blocks.{underline_rank}
use Rattle.md_meaning.specs.Meaning.Inherited.{inside, is_tight}
use Rattle.md_meaning.specs.Meaning.Layout.{Piece, layout, on_own_line, said}
use Rattle.md_meaning.specs.Meaning.Means.{prints}
use Rattle.md_meaning.specs.Meaning.Spans.{is_at}
use Rattle.md_meaning.specs.Meaning.Tables.{cell_of}
use Rattle.md_meaning.specs.declared.surroundings.Surroundings.{Surroundings}
use Rattle.md_pattern.specs.Looseness.{is_loose}
use Rattle.md_text.specs.Html.{Attribute, printed_elements, is_tag, opening_tag}
use Rattle.md_safe.proofs.Cases.{either, cases}
use Rattle.md_safe.proofs.Elements.{adds-cell_in, adds-ordered, class-passes, code_closing}
use Rattle.md_safe.proofs.Elements.{heading_name, item-end, ranked}
use Rattle.md_safe.proofs.Claims.{Claims, Known, NodePrints, Own, Prints, alone, block-pair}
use Rattle.md_safe.proofs.Claims.{ending-around, lined, nothing, plain_tag, turned}
use Rattle.md_safe.proofs.Contents.{Holds}
use Rattle.md_safe.proofs.FenceNodes.{inside-is}
use Rattle.md_safe.proofs.FlowNodes.{is_flow, is_math, line-escaped, raw-prints, raw_tag}
use Rattle.md_safe.proofs.FlowNodes.{setext-fits}
use Rattle.md_safe.proofs.Insides.{is_raw}
use Rattle.md_safe.proofs.Laid.{Adds, adds-alone, adds-text, adds-weaker, adds-when, adds-needed}
use Rattle.md_safe.proofs.Linking.{is_spans, with_links}
use Rattle.md_safe.proofs.RawElements.{IsInfo, IsRaw, adds-raw, code-end, code_tag, fenced-end}
use Rattle.md_safe.proofs.SpanCases.{Spanning, inline-node, is_inline}
use Rattle.md_safe.proofs.Tags.{Turns, adds-flat, attribute, framed-forced, framed-needed}
use Rattle.md_safe.proofs.Tags.{framed-text, turns-two}
use Rattle.md_safe.specs.Contents.{Linked, Cells, Characters, Content, Flow, Items, Parts, Phrasing}
use Rattle.md_safe.specs.Contents.{Preformatted, Rows, held_in}
use Rattle.md_safe.specs.Placed.{Ending, may_stand, sort_of, is_inner}

-- ---- headings

holds_phrasing : Option Content → Bool
holds_phrasing held =
    elim held [ None ↦ false | Some content ↦ elim content [ Phrasing ↦ true | _ ↦ false ] ]

phrasing-held : (held : Option Content) → holds_phrasing held ≡ true → held ≡ Some Phrasing
unfolding holds_phrasing
phrasing-held held h = grind (arith, h)

turns-heading : (m : Claims) (rank : ℕ) → (1 ≤ rank) × (rank ≤ 6) → Turns (m.holds Phrasing)
    (m.holds Flow) (heading_tag (codes "<h") rank) (heading_tag (codes "</h") rank)
unfolding heading_name holds_phrasing digits
turns-heading m rank h = plain_tag m (heading_name rank) (ranked
    (λ rank. is_tag printed_elements (heading_name rank) []) refl rank h) (phrasing-held
    (held_in m.nested Flow (heading_name rank)) (ranked (λ rank. holds_phrasing
    (held_in m.nested Flow (heading_name rank))) refl rank h))

pub heading-node : (m : Claims) (rank : ℕ) → (1 ≤ rank) × (rank ≤ 6) → {inner : List Piece} →
    Prints m Phrasing inner → Prints m Flow (heading rank inner)
heading-node m rank fits a = turned m refl refl (turns-heading m rank fits)
    (framed-needed m.beside m.ending) a (framed-text m.beside)

-- ---- code and math

-- the tags of code in flow content
abbrev TurnsCode : Claims → List ℕ → Type 0
TurnsCode m o = Turns (m.holds Characters) (m.holds Flow) o code_closing

turns-code : (m : Claims) (attributes : List Attribute) → is_tag printed_elements (codes "code") attributes
    ≡ true → list_all m.s.p.test attributes ≡ true → TurnsCode
    m (codes "<pre>" ++ opening_tag (codes "code") attributes)
turns-code m attributes h a = turns-two (plain_tag m {held = Preformatted} {content = Flow}
    (codes "pre") refl refl) ((m.tag Characters Preformatted (codes "code") refl).tag attributes h
    a)

-- the tag of fenced code or math, with what is said in it
turns-info : (m : Claims) (math : Bool) (x : List ℕ) → IsInfo (raw_tag math) x →
    TurnsCode m (raw_tag math ++ (x ++ (62 ∷ [])))
turns-info m false x (inl e) = rw e (turns-code m [] refl refl)
turns-info m false x (inr e) = rw e.1 (subst (TurnsCode m) (simp append_assoc) (turns-code m
    (attribute (codes "class") (codes "language-" ++ e.0) ∷ []) (rw e.2 refl) (class-passes m.s.test
    (codes "language-" ++ e.0))))
turns-info m true x (inl e) = rw e (turns-code m
    (attribute (codes "class") (codes "language-math math-display") ∷ []) refl
    (class-passes m.s.test (codes "language-math math-display")))
turns-info m true x (inr e) = lie (ap (λ tag. bytes_eq tag code_tag) e.3)

raw-node : (m : Claims) (t : At) (name : Name) → is_raw name ≡ true → (inner : List Piece) →
    Known m t name inner → Prints m Flow (prints m.s.context t name inner)
raw-node m t name is inner k = rw (raw-prints m.s.context t name is inner) (by (is_math name)
    (inside-is m.s t Blocks _ name inner (grind arith) k.within))
  where
    around : Surroundings
    around = inside m.s.context.options (is_loose t.children) name t.around

    fenced-node : (math : Bool) → Adds m.s.context.ending (IsRaw (raw_tag math)) inner →
        Prints m Flow (fenced t (raw_tag math) inner)
    fenced-node math a = adds-raw m.beside (m.takes Flow refl) m.code m.ending (adds-weaker (λ x r.
        record {
          attributes = r.attributes;
          body = r.body;
          whole = r.whole;
          escaped = r.escaped;
          turns = turns-info m math r.attributes r.info;
        }) a) (fenced-end m.beside m.ending t)

    by : (math : Bool) → Adds m.s.context.ending (Holds m.s.p around.is_escaping around.in_image
        (cond math FirstMathFence FirstFence)) inner → Prints m Flow (fenced t (raw_tag math) inner)
    by true a = fenced-node true a
    by false a = fenced-node false a

-- ---- blocks that print tags or HTML, but code and math between fences

abbrev is_block : Name → Bool
is_block name = named GfmTable name || (is_flow name && not (is_raw name || named ListItem name))

paragraph-node : (m : Claims) (tight : Bool) {inner : List Piece} → Prints m Phrasing inner →
    Prints m Flow (cond tight inner (on_own_line (codes "<p>") ++ (inner ++ said (codes "</p>"))))
paragraph-node m true a = adds-weaker m.wider a
paragraph-node m false a = turned m refl refl (plain_tag m (codes "p") refl refl)
    (framed-needed m.beside m.ending) a (framed-text m.beside)

block-node : (m : Claims) (t : At) (name : Name) → is_block name ≡ true → NodePrints m t Flow name
block-node m t BlockQuote is inner k a = block-pair m {held = Flow} refl refl
    (plain_tag m (codes "blockquote") refl refl) (a refl)
block-node m t ListOrdered is inner k a = adds-ordered m.beside (m.takes Items refl)
    (m.takes Flow refl) m.s.context m.ending m.s.test (m.tag Items Flow (codes "ol") refl) t k.fit
    (a refl)
block-node m t ListUnordered is inner k a = turned m {held = Items} refl refl
    (plain_tag m (codes "ul") refl refl) (framed-needed m.beside m.ending) (a refl)
    (framed-forced m.beside m.ending)
block-node m t Paragraph is inner k a = paragraph-node m (is_tight t.around.container) (a refl)
block-node m t ThematicBreak is inner k a = lined m refl (adds-flat refl
    ((m.void Flow (codes "hr") refl).tag [] refl refl))
block-node m t HeadingAtx is inner k a = heading-node m (atx_rank t) (k.fit.0, k.fit.1) (a refl)
block-node m t HeadingSetextUnderlineSequence is inner k a = heading-node m
    (underline_rank m.s.context t) (setext-fits (is_at 45 m.s.context.bytes t.place.start.index))
    (adds-text (k.heading refl))
block-node m t CodeIndented is inner k a = turned m {held = Characters} refl refl
    (turns-code m [] refl refl) (framed-needed m.beside m.ending) (a refl)
    (code-end m.beside m.ending t)
block-node m t HtmlFlow is inner k a = lined m refl (adds-weaker m.wider (a refl))
block-node m t GfmTable is inner k a = block-pair m {held = Parts} refl refl
    (plain_tag m (codes "table") refl refl) (a refl)
block-node m t _ is inner k a = lie is

-- each name is of one of the tables
covered : (name : Name) →
    (is_transparent name || ((is_part name || is_source name) || (is_inline name || (is_block name
    || (is_raw name || is_inner (sort_of name)))))) ≡ true
covered name = grind arith

-- no item and no part of a table
outer : (name : Name) → (cond (is_inner (sort_of name)) false true) ≡ true →
    is_inner (sort_of name) ≡ false
outer name h = cases (is_inner (sort_of name)) (λ e. lie (rw e at h)) (λ e. e)

-- what blocks and spans print
flow-node : (m : Claims) (t : At) (name : Name) → is_transparent name ≡ false →
    (is_part name || is_source name) ≡ false → may_stand Flow (sort_of name) ≡ true →
    NodePrints m t Flow name
flow-node m t name solid whole stands inner k a = either _ _ (covered name)
    (λ is. lie (sym solid ∙ is)) (λ c. either _ _ c (λ is. lie (sym whole ∙ is)) (λ c. either _ _ c
    (λ is. adds-weaker m.wider (inline-node m t Phrasing name is inner k a
    (record { spans = refl; free = λ _. refl; plain = λ _. refl }))) (λ c. either _ _ c
    (λ is. block-node m t name is inner k a) (grind (arith, raw-node, outer)))))

spans-node : (m : Claims) (t : At) (content : Content) (name : Name) → is_transparent name ≡ false →
    (is_part name || is_source name) ≡ false → may_stand Phrasing (sort_of name) ≡ true →
    (inner : List Piece) → Known m t name inner → Own m content name inner →
    Spanning t content name → Prints m content (prints m.s.context t name inner)
spans-node m t content name solid whole stands inner k a g = either _ _ (covered name)
    (λ is. lie (sym solid ∙ is)) (λ c. either _ _ c (λ is. lie (sym whole ∙ is)) (λ c. either _ _ c
    (λ is. inline-node m t content name is inner k a g) (λ c. lie (sym (grind arith) ∙ stands))))

-- ---- lists, tables and code

-- where a line ending may stand, what may be around a text may
ending-spaced : (content : Content) → may_stand content Ending ≡ true → is_spaced content ≡ true
ending-spaced content stands = grind arith

row-node : (m : Claims) (in_head : Bool) (kinds : List AlignKind) (inner : List Piece) →
    Prints m Cells inner → Prints m Rows (on_own_line (codes "<tr>") ++ (inner ++ (flat_map
    (cell_of in_head []) kinds ++ on_own_line (codes "</tr>"))))
row-node m in_head kinds inner a = rw (← (append_assoc inner (flat_map (cell_of in_head []) kinds)
    (on_own_line (codes "</tr>")))) (block-pair m refl refl (plain_tag m (codes "tr") refl refl)
    (m.filled in_head kinds inner a))

-- the contents of blocks and of spans
abbrev is_usual : Content → Bool
is_usual content = elim content [ Flow ↦ true | Phrasing ↦ true | _ ↦ false ]

-- each sort is of a name or two, and the row of delimiters prints nothing
inner-node : (m : Claims) (t : At) (content : Content) (name : Name) → is_usual content ≡ false →
    may_stand content (sort_of name) ≡ true → NodePrints m t content name
inner-node m t Flow name other stands inner k a = lie (sym other)
inner-node m t Phrasing name other stands inner k a = lie (sym other)
inner-node m t Items ListItem other stands inner k a = turned m {held = Flow} refl refl
    (plain_tag m (codes "li") refl refl) (framed-needed m.beside m.ending) (a refl)
    (item-end m.beside m.ending (ends_in_line t))
inner-node m t Parts GfmTableHead other stands inner k a = block-pair m {held = Rows} refl refl
    (plain_tag m (codes "thead") refl refl) (a refl)
inner-node m t Parts GfmTableBody other stands inner k a = turned m {held = Rows} refl refl
    (plain_tag m (codes "tbody") refl refl) (framed-text m.beside) (a refl)
    (framed-needed m.beside m.ending)
inner-node m t Rows GfmTableRow other stands inner k a = row-node m t.around.in_head (drop
    (count_by (named GfmTableCell) (spine_names t.children)) t.before.columns) inner (a refl)
inner-node m t Rows GfmTableDelimiterRow other stands inner k a = nothing m refl
inner-node m t Cells GfmTableCell other stands inner k a = adds-cell_in m.s.test
    (m.element Phrasing Cells (codes "th") refl, m.element Phrasing Cells (codes "td") refl)
    (λ xs. lined m {content = Cells} refl) (m.alone Cells refl [] m.beside.none) t.around.in_head
    (slice_get t.before.columns (count_by (named GfmTableCell) t.before.spine))
    (layout m.s.context.ending inner) (adds-alone {f = m.holds Phrasing} (a refl))
inner-node m t Characters CodeFlowChunk other stands inner k a = adds-weaker
    (λ x h. m.text Characters x h refl) (line-escaped m.s t CodeFlowChunk refl k.fit inner)
inner-node m t content LineEnding other stands inner k a = alone m (ending-spaced content stands)
    (ending-around m t k.fit)
inner-node m t content BlankLineEnding other stands inner k a = alone m
    (ending-spaced content stands) (adds-when m.beside t.is_last (adds-needed m.beside m.ending))
inner-node m t _ _ other stands inner k a = lie stands

-- a node that isn't transparent prints what its place allows
pub solid-node : (m : Claims) (t : At) (content : Content) (name : Name) →
    is_transparent name ≡ false → (is_part name || is_source name) ≡ false →
    may_stand (with_links content) (sort_of name) ≡ true → (inner : List Piece) →
    Known m t name inner → Own m content name inner →
    (is_spans content ≡ true → Spanning t content name) → Prints m
    content (prints m.s.context t name inner)
solid-node m t Flow name solid whole stands inner k a g = flow-node m t name solid whole stands
    inner k a
solid-node m t Phrasing name solid whole stands inner k a g = spans-node m t Phrasing name solid
    whole stands inner k a (g refl)
solid-node m t Linked name solid whole stands inner k a g = spans-node m t Linked name solid whole
    stands inner k a (g refl)
solid-node m t content name solid whole stands inner k a g = inner-node m t content name refl stands
    inner k a
