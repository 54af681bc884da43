-- The events of a document in rows, each with its node, and where the other event of the node is.
use Rattle.std.proofs.Common.{◌≡◌, ℕ, suc, Bool, true, false, ◌&&◌, Option, Some, None, List, []}
use Rattle.std.proofs.Common.{◌∷◌, ◌++◌, length, refl, sym, ap, ◌∙◌}
use Rattle.std.specs.Prelude.{map, if◌then◌else◌}
use Rattle.std.proofs.lemmas.List.{map-append}
use Rattle.md_base.specs.declared.event.Event.{Event}
use Rattle.md_base.specs.declared.event.Name.{Name}
use Rattle.md_base.specs.declared.event.Point.{Point}
use Rattle.md_base.specs.Tree.{Forest, Empty, Node, flatten, entering, exiting}
use Rattle.md_base.specs.Children.{is_empty}
use Rattle.md_pattern.specs.Partners.{index_after, partners_of}
use Rattle.md_pattern.specs.Standing.{standing_of}
use Rattle.md_tree.specs.declared.mention.Mention.{Mention}
use Rattle.md_tree.specs.declared.mention.Mention.TheVariants.{Nothing}
use Rattle.md_tree.specs.declared.mention.Referral.TheVariants.{Missing}
use Rattle.md_tree.specs.Entered.{children_of}
use Rattle.md_tree.specs.Mentions.{mention_of, mentions_of}
use Rattle.md_tree.specs.Rules.{reading_of, target_of}
use Rattle.md_steps.specs.State.{facts_of}
use Rattle.md_steps.specs.Run.{Noticed, noticed}

-- an event of a node: whether it enters it; the node's name, its two ends and its children, whether
-- nothing follows it in the document, and the indices of its two events
pub record Row : Type 0 where
  pub enters : Bool
  pub name : Name
  pub start : Point
  pub end : Point
  pub children : Forest
  pub last : Bool
  pub entry : ℕ
  pub exit : ℕ

abbrev pub row_of : Bool → ℕ → Bool → Name → Point → Point → Forest → Row
row_of enters index last name start end children = record {
  enters = enters;
  name = name;
  start = start;
  end = end;
  children = children;
  last = last;
  entry = index;
  exit = index_after (suc index) children;
}

-- those of some nodes: the first is entered at an index, and the last may end the document
abbrev pub rows_of : ℕ → Bool → Forest → List Row
rows_of index outermost Empty = []
rows_of index outermost (Node name start end children rest) =
    row_of true index (outermost && is_empty rest) name start end children
    ∷ rows_of (suc index) false children
    ++ row_of false index (outermost && is_empty rest) name start end children
    ∷ rows_of (suc (index_after (suc index) children)) outermost rest

-- ---- the row of each event, in order, gives the fact about it
module _ {A : Type 0} (of_row : Row → A) (column : ℕ → Bool → Forest → List A)
    (at_end : (index : ℕ) (outermost : Bool) → column index outermost Empty ≡ [])
    (at_node : (index : ℕ) (outermost : Bool) (name : Name) (start end : Point)
    (children rest : Forest) → column index outermost (Node name start end children rest)
    ≡ of_row (row_of true index (outermost && is_empty rest) name start end children)
    ∷ (column (suc index) false children
    ++ of_row (row_of false index (outermost && is_empty rest) name start end
    children) ∷ column (suc (index_after (suc index) children)) outermost rest)) where
  column_rows : (forest : Forest) (index : ℕ) (outermost : Bool) →
      map of_row (rows_of index outermost forest) ≡ column index outermost forest
  column_rows Empty index outermost = sym (at_end index outermost)
  column_rows (Node name start end children rest) index outermost =
      let last : Bool = outermost && is_empty rest in
      let entry : A = of_row (row_of true index last name start end children) in
      let exit : Row = row_of false index last name start end children in
      let later : ℕ = suc (index_after (suc index) children) in
      ap (λ xs. entry ∷ xs)
      (map-append of_row (rows_of (suc index) false children) (exit ∷ rows_of later outermost rest)
      ∙ ap (λ xs. xs ++ of_row exit ∷ map of_row (rows_of later outermost rest))
      (column_rows children (suc index) false)
      ∙ ap (λ xs. column (suc index) false children ++ of_row exit ∷ xs)
      (column_rows rest later outermost))
      ∙ sym (at_node index outermost name start end children rest)

abbrev pub event_of : Row → Event
event_of row = if row.enters then entering row.name row.start else exiting row.name row.end

-- what is noticed of a node
abbrev pub seen_of : List ℕ → Bool → Forest → Point → Point → Noticed
seen_of bytes last children start end = record {
  facts = facts_of bytes last children start end;
  inside = suc (length (flatten children));
}

abbrev pub noticed_of : List ℕ → Row → Noticed
noticed_of bytes row = seen_of bytes row.last row.children row.start row.end

abbrev pub children_at : Row → Option Forest
children_at row = if row.enters then Some row.children else None

abbrev pub partner_at : Row → ℕ
partner_at row = if row.enters then row.exit else row.entry

abbrev pub mention_at : Row → Mention
mention_at row = if row.enters then Nothing
    else mention_of (reading_of (standing_of row.name)) (target_of row.children Missing)

pub event-rows : (document : Forest) (index : ℕ) (outermost : Bool) →
    map event_of (rows_of index outermost document) ≡ flatten document
event-rows =
    column_rows event_of (λ index outermost forest. flatten forest) (λ index outermost. refl)
    (λ index outermost name start end children rest. refl)

pub noticed-rows : (bytes : List ℕ) (document : Forest) (index : ℕ) (outermost : Bool) →
    map (noticed_of bytes) (rows_of index outermost document) ≡ noticed bytes outermost document
noticed-rows bytes =
    column_rows (noticed_of bytes) (λ index outermost forest. noticed bytes outermost forest)
    (λ index outermost. refl) (λ index outermost name start end children rest. refl)

pub children-rows : (document : Forest) (index : ℕ) (outermost : Bool) →
    map children_at (rows_of index outermost document) ≡ children_of document
children-rows =
    column_rows children_at (λ index outermost forest. children_of forest) (λ index outermost. refl)
    (λ index outermost name start end children rest. refl)

pub partner-rows : (document : Forest) (index : ℕ) (outermost : Bool) →
    map partner_at (rows_of index outermost document) ≡ partners_of index document
partner-rows = column_rows partner_at (λ index outermost forest. partners_of index forest)
    (λ index outermost. refl) (λ index outermost name start end children rest. refl)

pub mention-rows : (document : Forest) (index : ℕ) (outermost : Bool) →
    map mention_at (rows_of index outermost document) ≡ mentions_of document
mention-rows =
    column_rows mention_at (λ index outermost forest. mentions_of forest) (λ index outermost. refl)
    (λ index outermost name start end children rest. refl)
