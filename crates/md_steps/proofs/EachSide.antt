-- What a state knows of a node where it is left, and what is printed at the two ends of nodes whose
-- ends look at more than the node.
use Rattle.std.proofs.Common.{◌≡◌, ℕ, ◌==◌, Bool, true, false, not, ◌&&◌, List, [], ◌∷◌, ◌++◌}
use Rattle.std.proofs.Common.{Option, Some, None, refl, append_assoc, arith, codes, cond}
use Rattle.std.proofs.lemmas.List.Sums.{sum_by-cons}
use Rattle.std.specs.Prelude.{count_by, unwrap_or}
use Rattle.std.specs.Option.{option_map_or}
use Rattle.std.specs.List.{list_any}
use Rattle.md_base.specs.declared.event.AlignKind.{AlignKind}
use Rattle.md_base.specs.declared.event.Name.{Name}
use Rattle.md_base.specs.declared.event.Name.TheVariants.{GfmTableCell}
use Rattle.md_base.specs.Is.{is}
use Rattle.md_base.specs.Children.{spine_names, last_name}
use Rattle.md_base.specs.NameTests.{is_transparent, is_fence, is_chunk, is_cell, is_call}
use Rattle.md_meaning.specs.Meaning.Layout.{Piece, said, when}
use Rattle.md_meaning.specs.Meaning.At.{Context, At, identifier_of}
use Rattle.md_meaning.specs.Meaning.Media.{leads_to}
use Rattle.md_tree.specs.declared.mention.Referral.TheVariants.{Missing}
use Rattle.md_tree.specs.Rules.{target_of}
use Rattle.md_meaning.specs.Meaning.Before.{is_first_fence}
use Rattle.md_meaning.specs.Meaning.Tables.{cell_of}
use Rattle.md_meaning.specs.Meaning.Footnotes.{call}
use Rattle.md_content.specs.Underlined.{is_underline}
use Rattle.md_steps.specs.State.{State, NodeFacts, facts_of, is_resource}
use Rattle.md_steps.specs.Steps.{is_value, is_ending, is_raw, is_row, is_labelled}
use Rattle.md_steps.specs.Sides.{cell_opening, cell_closing, call_closing, referred}
use Rattle.md_steps.specs.Claim.{seen, mark_after}
use Rattle.md_steps.proofs.Places.{place-so-far}

-- what the check found of a node, as its meaning sees it
abbrev pub facts_at : Context → At → NodeFacts
facts_at context at = facts_of context.bytes at.is_last at.children at.place.start at.place.end

-- the value of a reference
abbrev pub is_reference : Name → Bool
is_reference name = is_value name && not (is_transparent name)

-- what a state in which a node is left knows of it, where its name reads that; `cells` is the
-- count at its entry
pub record Leaves (context : Context) (name : Name) (at : At) (cells : ℕ) (left : State)
    (ended : Option Name) : Type 0 where
  pub marker : is_reference name ≡ true → left.marker ≡ mark_after at.before.spine
  pub ending : is_ending name ≡ true →
      (left.slurps ≡ at.before.slurps) × (left.ended ≡ at.before.previous)
  pub raw : is_raw name ≡ true → (left.fences ≡ count_by is_fence (spine_names at.children))
      × (left.has_chunk ≡ list_any is_chunk (spine_names at.children))
      × (ended ≡ last_name at.children)
  pub fences : is_fence name ≡ true → left.fences ≡ count_by is_fence at.before.spine
  pub heading : is_underline name ≡ true → left.heading ≡ at.before.heading
  pub cell : is_cell name ≡ true → (cells ≡ count_by (is GfmTableCell) at.before.spine)
      × (left.cells ≡ count_by (is GfmTableCell) at.before.spine)
  pub row : is_row name ≡ true →
      left.cells ≡ count_by (is GfmTableCell) (spine_names at.children)
  pub resource : is_labelled name ≡ true → at.found.resource ≡ left.resource
  pub referred : at.found.resource ≡ None → is_resource (target_of at.children Missing) ≡ false
  pub calls : is_call name ≡ true → (at.calls ≡ left.calls) × (later : List (List ℕ))
      × (context.calls ≡ (at.calls ++ identifier_of context.bytes at.children ∷ []) ++ later)

pub cell_sides : (head : Bool) (o : Option AlignKind) (text : List ℕ) →
    option_map_or (λ kind. cell_of head text kind) o []
    ≡ option_map_or (λ kind. cell_opening head kind) o []
    ++ ([] ++ option_map_or (λ kind. cell_closing head text) o [])
cell_sides head None text = refl
cell_sides head (Some kind) text = refl

pub list_sides : (a b c inner d : List Piece) →
    a ++ (b ++ (c ++ (inner ++ d))) ≡ (a ++ (b ++ c)) ++ (inner ++ d)
list_sides a b c inner d = simp append_assoc

-- no fence among names is none counted
pub none-counted : (test : Name → Bool) (names : List Name) →
    (count_by test names == 0) ≡ not (list_any test names)
none-counted test [] = refl
none-counted test (name ∷ names) =
    grind (arith, sum_by-cons (λ n. cond (test n) 1 0) name names, none-counted test names)

pub fence-sides : (at : At) (left : State) (inner : List Piece) →
    left.fences ≡ count_by is_fence at.before.spine →
    inner ++ when (is_first_fence at) (said (codes ">"))
    ≡ inner ++ when (left.fences == 0) (said (codes ">"))
fence-sides at left inner fences = grind (arith, none-counted)

pub call-sides : (context : Context) (at : At) (left : State) → at.calls ≡ left.calls →
    (later : List (List ℕ)) →
    context.calls ≡ (at.calls ++ identifier_of context.bytes at.children ∷ []) ++ later →
    call context at ≡ call_closing context (record left
    { scope = seen at.around at.before.columns })
    (facts_at context at)
call-sides context at left calls later whole = grind (arith, place-so-far)

-- a resource that the meaning found, or the definition to which the node refers
pub led-sides : (context : Context) (at : At) →
    (at.found.resource ≡ None → is_resource (target_of at.children Missing) ≡ false) →
    leads_to context at ≡ unwrap_or at.found.resource (referred context (facts_at context at))
led-sides context at refers = grind arith
