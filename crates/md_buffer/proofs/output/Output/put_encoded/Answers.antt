-- The encoded text comes after the innermost one. If memory runs out, a part of it may be written,
-- and all texts are sound. The search alone cites no lemma on nested texts.
use Rattle.std.proofs.Common.{◌++◌, List, ap, ◌∙◌, reverse}
use Rattle.std.specs.Prelude.{string_bytes}
use Rattle.md_text.specs.Encode.{encoded}
use Rattle.md_buffer.specs.declared.output.Start.{Start}
use Rattle.md_buffer.specs.Texts.{Texts}
use Rattle.md_buffer.specs.Waiting.{texts_of}
use Rattle.md_buffer.proofs.Sound as sound
use Rattle.md_buffer.proofs.output.Output.put_encoded.Goals as goal

pub invariant_of-self : goal.invariant_of-self
invariant_of-self c =
    let o = c.self.inside in
    let outers : List Start = reverse o.outers.items in
    sound.longer (string_bytes o.bytes) (string_bytes c.push_encoded.new.out)
    (string_bytes o.heads) o.waiting.items
    o.start outers c.push_encoded.ensures.before c.self.invariant

pub invariant_of-self-2 : goal.invariant_of-self-2
invariant_of-self-2 c =
    let o = c.self.inside in
    let outers : List Start = reverse o.outers.items in
    sound.longer (string_bytes o.bytes) (string_bytes c.push_encoded.new.out)
    (string_bytes o.heads) o.waiting.items
    o.start outers c.push_encoded.ensures.before c.self.invariant

pub returns : goal.returns
returns c =
    let o = c.self.inside in
    let outers : List Start = reverse o.outers.items in
    let more = encoded c.args.escaping c.args.text.now in
    ap (λ bs. texts_of bs (string_bytes o.heads) o.waiting.items o.start outers)
    c.in_ok-push_encoded.ensures.added
    ∙ sound.put_texts (string_bytes o.bytes) more (string_bytes o.heads)
    o.waiting.items o.start outers
    c.self.invariant
    ∙ ap (λ (t : Texts). record { text = t.text ++ more; below = t.below }) c.self.view_is
