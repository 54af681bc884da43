-- That a call is a step follows if it is one under a name that is known to be the event's.
use Rattle.std.proofs.Common.{◌≡◌, ℕ, List, ap, sym, ◌∙◌}
use Rattle.md_base.specs.declared.event.Name.{Name}
use Rattle.md_meaning.specs.Meaning.At.{Context}
use Rattle.md_facts.specs.NodeFacts.{IsNoticedAt}
use Rattle.md_steps.specs.Run.{Noticed}
use Rattle.md_steps.specs.State.{State}
use Rattle.md_steps.specs.Steps.{entered, exited}
use Rattle.md_printer.specs.declared.context.Context.{Context as Supplied}
use Rattle.md_printer.specs.Supplies.{Supplies, Enters, Leaves}

-- the context, with the line ending that the code has
abbrev pub ending_in : List ℕ → Context → Context
ending_in ending context = record context { ending = ending }

pub enters-by : (code : Supplied) (index : ℕ) (name known : Name) (before after : State) →
    name ≡ known →
    ((context : Context) (one : Noticed) → Supplies code context →
    IsNoticedAt code.checked.now index one →
    after ≡ entered (ending_in code.ending.now context) one.facts known before) →
    Enters code index name before after
enters-by code index name known before after is shown context one supplies there =
    shown context one supplies there
    ∙ ap (λ ending. entered (ending_in ending context) one.facts known before) (sym supplies.ending)
    ∙ ap (λ n. entered context one.facts n before) (sym is)

pub leaves-by : (code : Supplied) (index : ℕ) (name known : Name) (before after : State) →
    name ≡ known →
    ((context : Context) (one : Noticed) → Supplies code context →
    IsNoticedAt code.checked.now index one →
    after ≡ exited (ending_in code.ending.now context) one.facts known before) →
    Leaves code index name before after
leaves-by code index name known before after is shown context one supplies there =
    shown context one supplies there
    ∙ ap (λ ending. exited (ending_in ending context) one.facts known before) (sym supplies.ending)
    ∙ ap (λ n. exited context one.facts n before) (sym is)
