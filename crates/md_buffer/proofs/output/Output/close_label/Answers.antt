-- If no head is pending in the innermost text, those that were reserved for it change nothing. The
-- search alone cites no lemma on nested texts.
use Rattle.std.proofs.Common.{List, ap, sym, subst, ◌∙◌, drop, reverse}
use Rattle.std.specs.Prelude.{string_bytes}
use Rattle.std.proofs.lemmas.List.{take_rest}
use Rattle.md_buffer.specs.declared.heads.Head.{Head}
use Rattle.md_buffer.specs.declared.output.Start.{Start}
use Rattle.md_buffer.specs.Waiting.{texts_of, IsSound, waits}
use Rattle.md_buffer.proofs.Merged.{none_waits}
use Rattle.md_buffer.proofs.Ended as ended
use Rattle.md_buffer.proofs.output.Output.close_label.Goals as goal

pub invariant_of-self : goal.invariant_of-self
invariant_of-self c =
    let o = c.self.inside in
    let outers : List Start = reverse o.outers.items in
    subst (λ (ws : List Head). IsSound (string_bytes o.bytes)
    (string_bytes o.heads) ws o.start outers)
    (sym c.truncate.ensures.items)
    (ended.close (string_bytes o.bytes) (string_bytes o.heads) o.waiting.items o.start
    outers c.self.invariant)

pub returns-then-not-waits : goal.returns-then-not-waits
returns-then-not-waits c =
    let o = c.self.inside in
    let outers : List Start = reverse o.outers.items in
    let first = o.start.first in
    let slice : List Head = c.as_slice.result.now in
    let none = none_waits (drop first o.waiting.items)
    (ap (λ (ws : List Head). waits (drop first ws)) (sym c.as_slice.ensures.value)
    ∙ ap (λ (ws : List Head). waits ws) (sym (take_rest slice first)) ∙ sym c.waits.ensures
    ∙ c.if-not-waits.true) in
    ap
    (λ (ws : List Head). texts_of (string_bytes o.bytes) (string_bytes o.heads) ws o.start outers)
    c.truncate.ensures.items
    ∙ ended.close_texts (string_bytes o.bytes) (string_bytes o.heads) o.waiting.items o.start outers
    none c.self.invariant
    ∙ c.self.view_is
