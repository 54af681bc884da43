-- The code's input about a document and its nodes, in the terms of the steps.
use Rattle.std.specs.Prelude.{◌≡◌, ℕ, Bool, true, false, Option, unwrap_or, option_and_then, List}
use Rattle.std.specs.Prelude.{slice_get}
use Rattle.md_base.specs.declared.event.Name.{Name}
use Rattle.md_base.specs.declared.event.Name.TheVariants as name_variants
use name_variants.{Data, LineEnding, SpaceOrTab, BlockQuotePrefix, Other, BlankLineEnding}
use name_variants.{ListItemMarker, ListItemValue, HeadingAtxSequence}
use Rattle.md_meaning.specs.Meaning.At.{Context, Target}
use Rattle.md_steps.specs.Sides.{referred}
use Rattle.md_steps.specs.State.{State}
use Rattle.md_steps.specs.Steps.{entered, exited, nowhere}
use Rattle.md_steps.specs.Run.{Noticed}
use Rattle.md_facts.specs.NodeFacts.{IsNoticedAt}
use Rattle.md_facts.specs.Definitions.{RefersTo}
use Rattle.md_printer.specs.declared.context.Context.{Context as Supplied}

-- the target at an index, if there is one
abbrev pub target_at : List Target → Option ℕ → Target
target_at targets place =
    unwrap_or (option_and_then (λ there. slice_get targets there) place) nowhere

-- the code's input encodes the context of the steps
pub record Supplies (code : Supplied) (context : Context) : Type 0 where
  pub bytes : context.bytes ≡ code.checked.now.bytes
  pub names : context.names ≡ code.checked.now.names
  pub options : context.options ≡ code.options.now
  pub ending : context.ending ≡ code.ending.now
  pub finds : (index : ℕ) (one : Noticed) (place : Option ℕ) →
      IsNoticedAt code.checked.now index one →
      RefersTo code.checked.now index place →
      target_at code.definitions.now place ≡ referred context one.facts

-- a node is entered as the steps do it, or left
abbrev pub Enters : Supplied → ℕ → Name → State → State → Type 0
Enters code index name before after = (context : Context) (one : Noticed) → Supplies code context →
    IsNoticedAt code.checked.now index one → after ≡ entered context one.facts name before

abbrev pub Leaves : Supplied → ℕ → Name → State → State → Type 0
Leaves code index name before after = (context : Context) (one : Noticed) → Supplies code context →
    IsNoticedAt code.checked.now index one → after ≡ exited context one.facts name before

-- the entry of a node of this name, without children, changes nothing
abbrev pub is_alone : Name → Bool
is_alone name = elim name [
  | Data ↦ true
  | LineEnding ↦ true
  | SpaceOrTab ↦ true
  | BlockQuotePrefix ↦ true
  | Other number ↦ true
  | BlankLineEnding ↦ true
  | ListItemMarker ↦ true
  | ListItemValue ↦ true
  | HeadingAtxSequence ↦ true
  | _ ↦ false
]
