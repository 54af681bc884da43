-- The paragraph is a document of the grammar, whose text is known.
use Rattle.std.proofs.Common.{◌≡◌, ℕ, List, [], sym, ◌∙◌, ap, subst, refl, length}
use Rattle.md_base.specs.declared.event.Event.{Event}
use Rattle.md_base.specs.Tree.{Forest, flatten}
use Rattle.md_text.specs.declared.options.CompileOptions.{CompileOptions}
use Rattle.md_tree.specs.Grammar.{Handed, handed}
use Rattle.md_meaning.specs.Meaning.{meaning}
use Rattle.md_html.specs.MeasuredEvents.{handed_by}
use Rattle.md_markdown.specs.Plain.{plain}
use Rattle.md_markdown.proofs.PlainLemmas.{shown, made, never_within}
use Rattle.md_markdown.proofs.plain.compile_plain_within.Goals as goal

-- what is compiled is this paragraph
compiled : (given : Handed) (events : List Event) (bytes text html : List ℕ)
    (options : CompileOptions) → given ≡ handed events bytes [] →
    ((document : Forest) → flatten document ≡ given.events →
    html ≡ meaning options given.names given.bytes document) → (document : Forest) →
    flatten document ≡ events → html ≡ meaning options [] bytes document
compiled given events bytes text html options is meant =
    subst (λ (given : Handed). (document : Forest) → flatten document ≡ given.events →
    html ≡ meaning options given.names given.bytes document) is meant

pub unreachable-requires : goal.unreachable-requires
unreachable-requires c =
    never_within c.plain_events-events.result c.as_bytes.result.now c.args.text.now
    c.plain_events-events.ensures c.as_bytes.ensures.value c.utf8.text
    (handed_by c.new-measured.result) c.in-Err.error c.new-measured.ensures
    c.in-Err.ensures.refused.too_deep c.in-Err.ensures.refused.refused
    (sym c.of_limits.ensures ∙ c.in-None.is)

pub returns-in-Ok-clause-text : goal.returns-in-Ok-clause-text
returns-in-Ok-clause-text c =
    shown c.plain_events-events.result c.as_bytes.result.now c.args.text.now
    c.plain_events-events.ensures c.as_bytes.ensures.value c.utf8.text c.args.within.now.options.now
    c.in-Ok.html (compiled (handed_by c.new-measured.result) c.plain_events-events.result
    c.as_bytes.result.now c.args.text.now c.in-Ok.html c.args.within.now.options.now
    c.new-measured.ensures c.in-Ok.ensures.promises.meaning)

pub returns-in-Ok-clause-made : goal.returns-in-Ok-clause-made
returns-in-Ok-clause-made c =
    made c.plain_events-events.result c.as_bytes.result.now c.args.text.now
    c.plain_events-events.ensures c.as_bytes.ensures.value c.utf8.text
    c.args.within.now.options.now c.in-Ok.html
    (compiled (handed_by c.new-measured.result) c.plain_events-events.result
    c.as_bytes.result.now c.args.text.now c.in-Ok.html c.args.within.now.options.now
    c.new-measured.ensures c.in-Ok.ensures.promises.meaning)

pub returns-in-Ok-clause-tree : goal.returns-in-Ok-clause-tree
returns-in-Ok-clause-tree c =
    c.in-Ok.ensures.promises.tree (plain (length c.args.text.now))
    (sym (ap (λ (given : Handed). given.events) c.new-measured.ensures
    ∙ c.plain_events-events.ensures)) refl
