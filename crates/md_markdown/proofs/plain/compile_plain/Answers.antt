-- The paragraph is a document of the grammar, whose text is known.
use Rattle.std.proofs.Common.{sym, ◌∙◌, refl, length}
use Rattle.md_markdown.specs.Plain.{plain}
use Rattle.md_markdown.proofs.PlainLemmas.{shown, made, never, nested}
use Rattle.md_markdown.proofs.plain.compile_plain.Goals as goal

pub unreachable-requires : goal.unreachable-requires
unreachable-requires c =
    never c.plain_events-events.result c.as_bytes.result.now c.args.text.now
    c.plain_events-events.ensures c.as_bytes.ensures.value c.utf8.text c.args.options.now
    c.in-Err.error c.requires.safe c.in-Err.ensures.options
    c.in-Err.ensures.refused (sym c.is_memory.ensures ∙ c.if-is_memory.false)

pub returns-in-Ok-clause-text : goal.returns-in-Ok-clause-text
returns-in-Ok-clause-text c =
    shown c.plain_events-events.result c.as_bytes.result.now c.args.text.now
    c.plain_events-events.ensures c.as_bytes.ensures.value c.utf8.text c.args.options.now
    c.in-Ok.html c.in-Ok.ensures.promises.meaning

pub returns-in-Ok-clause-made : goal.returns-in-Ok-clause-made
returns-in-Ok-clause-made c =
    made c.plain_events-events.result c.as_bytes.result.now c.args.text.now
    c.plain_events-events.ensures c.as_bytes.ensures.value c.utf8.text c.args.options.now
    c.in-Ok.html c.in-Ok.ensures.promises.meaning

pub returns-in-Ok-clause-nesting : goal.returns-in-Ok-clause-nesting
returns-in-Ok-clause-nesting c =
    nested c.plain_events-events.result c.as_bytes.result.now c.args.text.now
    c.plain_events-events.ensures c.as_bytes.ensures.value c.utf8.text c.args.options.now
    c.in-Ok.html c.requires.safe c.in-Ok.ensures.promises.meaning

pub returns-in-Ok-clause-tree : goal.returns-in-Ok-clause-tree
returns-in-Ok-clause-tree c =
    c.in-Ok.ensures.promises.tree (plain (length c.args.text.now))
    (sym c.plain_events-events.ensures) refl
