-- The target of a definition, from its own events, and what is known about all definitions when a
-- link is looked up.
use Rattle.std.specs.Prelude.{◌≡◌, ℕ, suc, ◌-◌, Option, option_and_then, List, map, take, drop}
use Rattle.std.specs.Prelude.{slice_get}
use Rattle.std.specs.Option.{option_map_or}
use Rattle.md_base.specs.declared.event.Event.{Event}
use Rattle.md_base.specs.declared.event.Name.TheVariants.{Definition}
use Rattle.md_base.specs.Tree.{Forest, flatten}
use Rattle.md_meaning.specs.Meaning.At.{Defined, Context}
use Rattle.md_tree.specs.Grammar.{Handed}
use Rattle.md_steps.specs.Steps.{entered, beginning, nowhere}
use Rattle.md_steps.specs.Sides.{referred}
use Rattle.md_steps.specs.Run.{Noticed, run, defined}
use Rattle.md_facts.specs.NodeFacts.{IsNoticedAt}

-- the part of a list between a node's entry, at an index, and its exit
abbrev pub within : {A : Type 0} → ℕ → ℕ → List A → List A
within index inside xs = take (inside - 1) (drop (suc index) xs)

-- the definition that is entered at an index: computed by the steps over the events in it
abbrev pub own_defined : Context → List Event → List Noticed → ℕ → Noticed → Defined
own_defined context events seen index one = record {
  identifier = one.facts.identifier;
  target = (run context 0 (within index one.inside events) (within index one.inside seen)
      (entered context one.facts Definition beginning)).target;
}

-- the definitions of the context have the identifiers of those of the document that the events
-- flatten
abbrev pub AreKnown : Handed → Context → Type 0
AreKnown handed context =
    (document : Forest) × (alone : Context) × (flatten document ≡ handed.events)
    × (alone.bytes ≡ handed.bytes) × (map (λ (d : Defined). d.identifier) context.definitions
    ≡ map (λ (d : Defined). d.identifier) (defined alone document))

-- the number of the definition that a link or an image refers to, if it refers to one
abbrev pub RefersTo : Handed → ℕ → Option ℕ → Type 0
RefersTo handed index place =
    (one : Noticed) (context : Context) → IsNoticedAt handed index one → AreKnown handed context →
    referred context one.facts ≡ option_map_or (λ (d : Defined). d.target)
    (option_and_then (λ there. slice_get context.definitions there) place) nowhere
