-- What a node prints beyond what its children print is no longer than a unit, its own text and, of
-- a few names, what else is used there.
use Rattle.std.proofs.Common.{ℕ, ◌+◌, ◌*◌, ◌≤◌, List, ◌++◌, length, arith, codes}
use Rattle.std.specs.Prelude.{slice_get, count_by}
use Rattle.std.specs.Fmt.{decimal}
use Rattle.std.proofs.lemmas.List.{length-drop}
use Rattle.md_base.specs.Is.{is}
use Rattle.md_base.specs.declared.event.AlignKind.{AlignKind}
use Rattle.md_base.specs.declared.event.Name.{Name}
use Rattle.md_base.specs.declared.event.Name.TheVariants as name_variants
use name_variants.{ListOrdered, HeadingAtx, HeadingSetextUnderlineSequence, Link, Image}
use name_variants.{GfmTableRow, GfmTableCell, GfmFootnoteCall, GfmTaskListItemCheck}
use Rattle.md_meaning.specs.Meaning.At.{Context, At}
use Rattle.md_meaning.specs.Meaning.Blocks.{atx_rank}
use Rattle.md_meaning.specs.Meaning.Footnotes.{call}
use Rattle.md_meaning.specs.Meaning.Layout.{Piece, layout, said}
use Rattle.md_meaning.specs.Meaning.Means.{prints}
use Rattle.md_meaning.specs.Meaning.Media.{leads_to}
use Rattle.md_meaning.specs.Meaning.Spans.{task_start}
use Rattle.md_length.specs.Costs.{unit, own}
use Rattle.md_length.specs.Uses.{weight, number_length}
use Rattle.md_length.proofs.Pieces.{size, size-append, sizes, layout-short}
use Rattle.md_length.proofs.Places.{serialized-short}
use Rattle.md_length.proofs.Texts.{encoded-short}
use Rattle.md_length.proofs.PrintedTexts.{line_ending-short, escaped-short, raw-short, anchor-short}
use Rattle.md_length.proofs.PrintedTexts.{reference-short, picture-short, autolink-short, rank-one}
use Rattle.md_length.proofs.PrintedTexts.{number-short, code-short, cell-short, filled-short}

-- what is printed at a node beside its own text and what its children print
abbrev pub extra : Context → At → Name → ℕ
extra context at name = elim name [
  | ListOrdered ↦ number_length context.bytes at.children
  | HeadingAtx ↦ 2 * length (decimal (atx_rank at))
  | HeadingSetextUnderlineSequence ↦ length at.before.heading
  | Link ↦ weight (leads_to context at)
  | Image ↦ weight (leads_to context at)
  | GfmTableRow ↦ 32 * length at.before.columns
  | GfmFootnoteCall ↦ size (call context at)
  | _ ↦ 0
]

abbrev pub IsShort : Context → At → List Piece → Name → Type 0
IsShort context at inner name = size (prints context at name inner)
    ≤ size inner + (unit context.names + 42 * own name at.place) + extra context at name

pub prints-short : (context : Context) (at : At) (inner : List Piece) (name : Name) →
    length context.ending ≤ 2 → IsShort context at inner name
prints-short context at inner GfmTaskListItemCheck few =
    omega (sizes, size-append (task_start context) (inner ++ said (codes "/>")))
prints-short context at inner Link few =
    omega (sizes, anchor-short context.options (leads_to context at), layout-short)
prints-short context at inner Image few =
    omega (sizes, picture-short context.options (leads_to context at), layout-short)
prints-short context at inner GfmTableCell few =
    omega (
      arith,
      cell-short at.around.in_head (layout context.ending inner)
          (slice_get at.before.columns (count_by (is GfmTableCell) at.before.spine)),
      layout-short,
    )
prints-short context at inner _ few =
    omega (
      sizes,
      escaped-short context at,
      raw-short context at,
      reference-short context at,
      line_ending-short context at,
      encoded-short,
      serialized-short,
      number-short,
      rank-one context at,
      autolink-short,
      code-short,
      filled-short,
      length-drop {A = AlignKind},
      layout-short,
    )
