-- The last byte of the bytes is that of the text, since no head is at its end. The search alone
-- cites no lemma on nested texts.
use Rattle.std.proofs.Common.{rules, List, ap, sym, ◌∙◌, drop, reverse}
use Rattle.std.specs.Prelude.{string_bytes}
use Rattle.std.proofs.lemmas.Str.{IsUtf8-string_bytes}
use Rattle.md_meaning.specs.Meaning.Layout.{begins_line}
use Rattle.md_buffer.specs.declared.output.Start.{Start}
use Rattle.md_buffer.specs.Texts.{Texts}
use Rattle.md_buffer.proofs.Sound as sound
use Rattle.md_buffer.proofs.output.Output.begins_line.Goals as goal

pub range_from-requires : goal.range_from-requires
range_from-requires c =
    let o = c.self.inside in
    let outers : List Start = reverse o.outers.items in
    let k = sound.boundary (string_bytes o.bytes) (string_bytes o.heads) o.waiting.items o.start
    outers (IsUtf8-string_bytes o.bytes) c.self.invariant in
    λ positive. search (rules, k)

pub returns : goal.returns
returns c =
    let o = c.self.inside in
    let outers : List Start = reverse o.outers.items in
    c.begins_line.ensures ∙ ap (λ t. begins_line t) c.range_from.ensures.value
    ∙ ap (λ t. begins_line (drop o.start.place t)) c.as_str.ensures.value
    ∙ sym (sound.begins (string_bytes o.bytes) (string_bytes o.heads) o.waiting.items o.start
    outers c.self.invariant)
    ∙ ap (λ (t : Texts). begins_line t.text) c.self.view_is
