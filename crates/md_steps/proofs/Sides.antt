-- What is printed at a node's two ends is what the node means, and its surroundings change as those
-- of the meaning. For most names both sides compute to the same, once the facts in the state are
-- substituted.
use Rattle.std.proofs.Common.{arith, ◌≡◌, ℕ, Bool, true, false, not, ◌||◌, List, [], ◌∷◌, ◌++◌}
use Rattle.std.proofs.Common.{Option, ap, sym, ◌∙◌, append-nil}
use Rattle.std.specs.Prelude.{if◌then◌else◌, count_by}
use Rattle.std.specs.List.{list_any}
use Rattle.md_base.specs.declared.event.AlignKind.{AlignKind}
use Rattle.md_base.specs.declared.event.Name.{Name}
use Rattle.md_base.specs.declared.event.Name.TheVariants as name_variants
use name_variants.{GfmTable, GfmTableCell}
use Rattle.md_base.specs.Is.{is}
use Rattle.md_base.specs.Children.{spine_names, last_name}
use Rattle.md_base.specs.NameTests.{is_fence, is_chunk, is_cell}
use Rattle.md_pattern.specs.Looseness.{is_loose}
use Rattle.md_pattern.specs.Alignments.{alignments}
use Rattle.md_meaning.specs.declared.surroundings.Container.TheVariants as container
use Rattle.md_meaning.specs.declared.surroundings.Surroundings.{Surroundings}
use Rattle.md_meaning.specs.Meaning.Inherited.{inside}
use Rattle.md_meaning.specs.Meaning.Layout.{Piece, layout, when}
use Rattle.md_meaning.specs.Meaning.At.{Context, At}
use Rattle.md_meaning.specs.Meaning.Means.{prints}
use Rattle.md_content.specs.Underlined.{is_underline}
use Rattle.md_steps.specs.Content.{Blocks, Lines, Fences, Cells, content_of}
use Rattle.md_steps.specs.State.{State, opens_scope, scope_inside, captures}
use Rattle.md_steps.specs.Steps.{is_ending, is_raw, is_row, is_labelled}
use Rattle.md_steps.specs.Sides.{opens, closes}
use Rattle.md_steps.specs.Claim.{seen, mark_after}
use Rattle.md_steps.proofs.Standing.{is_quiet, is_set_aside}
use Rattle.md_steps.proofs.EachSide.{facts_at, is_reference, Leaves, cell_sides, list_sides}
use Rattle.md_steps.proofs.EachSide.{fence-sides, call-sides, led-sides}

-- ---- the facts about a node at its exit, written into its state
abbrev informed : Name → At → State → State
informed name at left = record left {
  scope = seen at.around at.before.columns;
  slurps = if is_ending name then at.before.slurps else left.slurps;
  ended = if is_ending name then at.before.previous else left.ended;
  marker = if is_reference name then mark_after at.before.spine else left.marker;
  fences = if is_raw name then count_by is_fence (spine_names at.children) else left.fences;
  has_chunk =
      if is_raw name then list_any is_chunk (spine_names at.children) else left.has_chunk;
  heading = if is_underline name then at.before.heading else left.heading;
  cells = if is_cell name then count_by (is GfmTableCell) at.before.spine
      else (if is_row name then count_by (is GfmTableCell) (spine_names at.children)
      else left.cells);
  resource = if is_labelled name then at.found.resource else left.resource;
}

abbrev cells_at : Name → At → ℕ → ℕ
cells_at name at cells = if is_cell name then count_by (is GfmTableCell) at.before.spine else cells

abbrev ended_at : Name → At → Option Name → Option Name
ended_at name at ended = if is_raw name then last_name at.children else ended

chosen : {A : Type 0} (b : Bool) (x y : A) → (b ≡ true → y ≡ x) → (if b then x else y) ≡ y
chosen b x y h = grind arith

informed-is : (context : Context) (name : Name) (at : At) (cells : ℕ) (left : State)
    (ended : Option Name) → Leaves context name at cells left ended →
    informed name at left ≡ record left { scope = seen at.around at.before.columns }
informed-is context name at cells left ended k = grind arith

-- ---- both sides, name by name

-- what is printed at the end of these depends on their content
abbrev is_open : Name → Bool
is_open name = elim (content_of name) [
  | Blocks ↦ true
  | Lines ↦ true
  | Fences ↦ true
  | Cells ↦ true
  | _ ↦ false
]

-- what a node's children print with what is printed at its end, which may be nothing
abbrev joined : List Piece → List Piece → List Piece
joined inner [] = inner
joined inner (piece ∷ pieces) = inner ++ (piece ∷ pieces)

abbrev ended_by : Name → List Piece → List Piece → List Piece
ended_by name inner stop = if captures name || is_quiet name then stop
    else (if is_open name then inner ++ stop else joined inner stop)

ended-is : (c q o : Bool) (inner stop : List Piece) → (q ≡ true → inner ≡ []) →
    (if c || q then stop else (if o then inner ++ stop else joined inner stop))
    ≡ (if c then [] else inner) ++ stop
ended-is c q o inner stop h = grind (arith, append-nil)

-- what a node prints, from what its children print, in a state that has the facts that it needs
abbrev Ends : Context → At → ℕ → State → Option Name → List Piece → Name → List Piece
Ends context at cells left ended inner name =
    opens context (seen at.around at.before.columns) (cells_at name at cells) (facts_at context at)
    name
    ++ ended_by name inner (closes context (informed name at left) (ended_at name at ended)
    (facts_at context at) (if captures name then layout context.ending inner else []) name)

abbrev Meant : Context → At → List Piece → Name → List Piece
Meant context at inner name = prints context at name (if is_quiet name then [] else inner)

tight_sides : (b : Bool) (inner start : List Piece) (piece : Piece) (pieces : List Piece) →
    (if b then inner else start ++ (inner ++ (piece ∷ pieces)))
    ≡ when (not b) start ++ joined inner (when (not b) (piece ∷ pieces))
tight_sides b inner start piece pieces = grind arith

ends-meant : (context : Context) (at : At) (cells : ℕ) (left : State) (ended : Option Name)
    (inner : List Piece) (name : Name) → is_set_aside name ≡ false →
    Leaves context name at cells left ended →
    Meant context at inner name ≡ Ends context at cells left ended inner name
ends-meant context at cells left ended inner name aside k =
    grind (arith, fence-sides, list_sides, tight_sides, cell_sides, call-sides, led-sides)

-- the two ends of a node, in the surroundings that the meaning sees
pub sides-seen :
    (context : Context) (at : At) (cells : ℕ) (left : State) (ended : Option Name)
    (inner : List Piece)
    (name : Name) → is_set_aside name ≡ false → (is_quiet name ≡ true → inner ≡ []) →
    Leaves context name at cells left ended →
    prints context at name inner
    ≡ opens context (seen at.around at.before.columns) cells (facts_at context at) name
    ++ ((if captures name then [] else inner)
    ++ closes context (record left { scope = seen at.around at.before.columns }) ended
    (facts_at context at) (if captures name then layout context.ending inner else []) name)
sides-seen context at cells left ended inner name aside quiet k =
    let own : List ℕ = if captures name then layout context.ending inner else [] in
    let starts : ℕ → List Piece =
    λ n. opens context (seen at.around at.before.columns) n (facts_at context at) name in
    let stops : State → Option Name → List Piece =
    λ s o. closes context s o (facts_at context at) own name in
    let stop : List Piece =
    stops (record left { scope = seen at.around at.before.columns }) ended in
    ap (λ i. prints context at name i) (sym (chosen (is_quiet name) [] inner quiet))
    ∙ ends-meant context at cells left ended inner name aside k
    ∙ ap (λ n. starts n ++ ended_by name inner (stops (informed name at left)
    (ended_at name at ended))) (chosen (is_cell name) _ cells (λ e. (k.cell e).0))
    ∙ ap (λ s. starts cells ++ ended_by name inner (stops s (ended_at name at ended)))
    (informed-is context name at cells left ended k)
    ∙ ap (λ o. starts cells ++ ended_by name inner
    (stops (record left { scope = seen at.around at.before.columns }) o))
    (chosen (is_raw name) _ ended (λ e. (k.raw e).2))
    ∙ ap (λ l. starts cells ++ l)
    (ended-is (captures name) (is_quiet name) (is_open name) inner stop quiet)

-- ---- the surroundings in a node are those that its children see

abbrev table_or : Name → List AlignKind → List AlignKind → List AlignKind
table_or name own columns = if is GfmTable name then own else columns

pub scope_inside-seen :
    (context : Context) (around : Surroundings) (columns : List AlignKind) (at : At) (name : Name) →
    (if opens_scope name then scope_inside context.options (facts_at context at) name
    (seen around columns)
    else seen around columns) ≡ seen (inside context.options (is_loose at.children) name around)
    (table_or name (alignments at.children) columns)
scope_inside-seen context around columns at name = grind arith
