-- The nodes of blocks print texts with readings, whatever else is claimed about texts: what is
-- claimed of each content is the same.
use Rattle.std.proofs.Common.{List, codes, false, refl, sym, true, ◌++◌, ◌||◌, ◌∙◌, ◌≡◌, arith}
use Rattle.md_base.proofs.Lies.{lie}
use Rattle.md_base.specs.NameTests.{is_transparent}
use Rattle.md_base.specs.declared.event.Name.{Name}
use Rattle.md_content.specs.Built.{Blocks, content_of, is_part, is_source}
use Rattle.md_meaning.specs.Meaning.At.{At}
use Rattle.md_meaning.specs.Meaning.Layout.{Piece}
use Rattle.md_meaning.specs.Meaning.Means.{prints}
use Rattle.md_text.proofs.EscapedLemmas.{escaped-append}
use Rattle.md_text.proofs.HtmlJoin.{join, nothing, text}
use Rattle.md_safe.proofs.Elements.{adds-empty_cells}
use Rattle.md_safe.proofs.Tags.{plain_of, adds-after, adds-before, adds-escaped, bracket-tag}
use Rattle.md_safe.proofs.Tags.{element-read, takes-escaped, void-read}
use Rattle.md_safe.proofs.Claims.{Claims, Known}
use Rattle.md_safe.proofs.FlowCases.{solid-node}
use Rattle.md_safe.proofs.Laid.{Adds, adds-needed, escaped_beside}
use Rattle.md_safe.proofs.Spot.{Setting}
use Rattle.md_safe.proofs.Texts.{Escaped, line_ends-escaped}
use Rattle.md_safe.specs.Contents.{Cells, Content, Flow, Items, Parts, Rows}
use Rattle.md_safe.specs.Placed.{Cell, Item, Part, Row, Sort, sort_of}
use Rattle.md_safe.proofs.Insides.{is_blocks-same}

abbrev pub reads : Setting → Claims
reads s = record {
  s = s;
  nested = true;
  holds = λ content. s.p.holds;
  around = Escaped;
  beside = escaped_beside;
  ending = s.ending;
  line_ends = line_ends-escaped;
  space = refl;
  takes = λ content is. takes-escaped s.p;
  alone = λ content is x h. s.p.plain x (text s.p.test x h);
  text = λ content x h may. s.p.plain x (text s.p.test x h);
  tag = λ held content name opens. bracket-tag s.p name;
  element = λ held content name opens. element-read s.p name;
  void = λ content name v. void-read s.p name;
  wider = λ x h. h;
  code = λ x w h g. s.p.plain (x ++ w) (text s.p.test (x ++ w) (escaped-append x w h g));
  filled = λ in_head kinds inner a. adds-after s.p a (adds-empty_cells s.test
      (element-read (plain_of s.p) (codes "th"), element-read (plain_of s.p) (codes "td")) (λ xs a.
      adds-before (plain_of s.p) (adds-escaped (plain_of s.p) (adds-needed escaped_beside s.ending))
      a) (record { none = nothing s.p.test; both = join s.p.test }) (nothing s.p.test) in_head
      kinds);
}

-- a content that allows a sort of node
abbrev place_for : Sort → Content
place_for sort = elim sort [ Item ↦ Items | Part ↦ Parts | Row ↦ Rows | Cell ↦ Cells | _ ↦ Flow ]

pub block-node : (s : Setting) (t : At) (name : Name) → is_transparent name ≡ false →
    (is_part name || is_source name) ≡ false → (inner : List Piece) → Known (reads s) t name inner →
    Adds s.context.ending s.p.holds (prints s.context t name inner)
block-node s t name solid whole inner k = solid-node (reads s) t (place_for (sort_of name)) name
    solid whole (grind arith) inner k (λ is. rw (is_blocks-same (content_of name Blocks) is) at
    k.within) (λ is. lie (sym (grind arith) ∙ is))
