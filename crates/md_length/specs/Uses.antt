-- What some nodes print that isn't their own text: numbers of lists, ranks, targets of links and
-- images in definitions, cells that fill rows, footnote calls. Only proofs use it.
use Rattle.std.specs.Prelude.{ℕ, ◌+◌, ◌*◌, if◌then◌else◌, List, [], ◌∷◌, length}
use Rattle.std.specs.Option.{option_map_or}
use Rattle.md_base.specs.declared.event.AlignKind.{AlignKind}
use Rattle.md_base.specs.declared.event.Name.{Name}
use Rattle.md_base.specs.declared.event.Name.TheVariants.{ListOrdered, GfmTable, GfmTableRow}
use Rattle.md_base.specs.declared.event.Name.TheVariants.{GfmFootnoteCall}
use Rattle.md_base.specs.Is.{is}
use Rattle.md_base.specs.Tree.{Forest, Empty, Node}
use Rattle.md_pattern.specs.Alignments.{alignments}
use Rattle.md_text.specs.declared.options.CompileOptions.{CompileOptions}
use Rattle.md_tree.specs.declared.mention.Referral.TheVariants.{Missing, Label}
use Rattle.md_tree.specs.Rules.{target_of}
use Rattle.md_meaning.specs.Meaning.At.{Target, Context, identifier_of, text_in}
use Rattle.md_meaning.specs.Meaning.Finds.{number_in_list}
use Rattle.md_meaning.specs.Meaning.Media.{target_defined}
use Rattle.md_length.specs.Costs.{nodes}
use Rattle.md_length.specs.Reuse.{is_media, option_length}

-- the length of a target when it is printed
abbrev pub weight : Target → ℕ
weight target = 6 * length target.destination + option_map_or (λ text. length text) target.title 0

-- the length of an id of a footnote, or of a call: its prefix, its identifier as a URL, and numbers
abbrev pub id_cost : CompileOptions → List ℕ → ℕ
id_cost options identifier =
    64 + 6 * option_length options.gfm_footnote_clobber_prefix + 6 * length identifier

-- the length of a call: the id that it links to, and its own
abbrev pub call_cost : CompileOptions → List ℕ → ℕ
call_cost options identifier = 140 + 2 * id_cost options identifier

-- the length of the definition that a link or an image refers to
abbrev pub led : Context → Forest → ℕ
led context children = elim (target_of children Missing) [
  | Label place ↦ weight (target_defined context (identifier_of context.bytes children))
  | _ ↦ 0
]

-- the length of a list's number
abbrev pub number_length : List ℕ → Forest → ℕ
number_length bytes children =
    option_map_or (λ place. length (text_in bytes place)) (number_in_list children) 0

-- the columns of the innermost table for a node's children
abbrev pub columns_in : List AlignKind → Name → Forest → List AlignKind
columns_in columns name children = if is GfmTable name then alignments children else columns

-- the length of a backreference to a call
abbrev pub back_cost : CompileOptions → List ℕ → ℕ
back_cost options identifier =
    160 + 6 * option_length options.gfm_footnote_back_label + id_cost options identifier

-- the length of a footnote in the section, without its text and its backreferences
abbrev pub item_cost : CompileOptions → List ℕ → ℕ
item_cost options identifier = 32 + id_cost options identifier

-- the sum over some identifiers
abbrev pub sum_of : (List ℕ → ℕ) → List (List ℕ) → ℕ
sum_of f [] = 0
sum_of f (identifier ∷ identifiers) = f identifier + sum_of f identifiers

-- ---- what some nodes use
-- the lengths of lists' numbers
abbrev pub numbers : List ℕ → Forest → ℕ
numbers bytes Empty = 0
numbers bytes (Node name start end children rest) =
    (if is ListOrdered name then number_length bytes children else 0) + numbers bytes children
    + numbers bytes rest

-- the lengths of definitions for the links and images that refer to them
abbrev pub referred : Context → Forest → ℕ
referred context Empty = 0
referred context (Node name start end children rest) =
    (if is_media name then led context children else 0) + referred context children
    + referred context rest

-- for each row of a table its columns
abbrev pub cells : List AlignKind → Forest → ℕ
cells columns Empty = 0
cells columns (Node name start end children rest) =
    (if is GfmTableRow name then length columns else 0)
    + cells (columns_in columns name children) children + cells columns rest

-- the sum over the footnote calls
abbrev pub called : (List ℕ → ℕ) → List ℕ → Forest → ℕ
called f bytes Empty = 0
called f bytes (Node name start end children rest) =
    (if is GfmFootnoteCall name then f (identifier_of bytes children) else 0)
    + called f bytes children + called f bytes rest

-- what a node uses, and what some nodes do: besides these a rank, which has one digit
abbrev pub used : Context → List AlignKind → Name → Forest → ℕ
used context columns name children =
    (if is ListOrdered name then number_length context.bytes children else 0) + 2
    + (if is_media name then led context children else 0)
    + 32 * (if is GfmTableRow name then length columns else 0)
    + (if is GfmFootnoteCall name
    then call_cost context.options (identifier_of context.bytes children) else 0)

abbrev pub uses : Context → List AlignKind → Forest → ℕ
uses context columns forest =
    numbers context.bytes forest + 2 * nodes forest + referred context forest
    + 32 * cells columns forest + called (call_cost context.options) context.bytes forest
