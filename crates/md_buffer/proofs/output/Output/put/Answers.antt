-- A written text comes after the innermost one, and after its pending heads. The search alone cites
-- no lemma on nested texts.
use Rattle.std.proofs.Common.{◌++◌, List, ap, sym, subst, ◌∙◌, reverse}
use Rattle.std.specs.Prelude.{string_bytes}
use Rattle.md_buffer.specs.declared.output.Start.{Start}
use Rattle.md_buffer.specs.Texts.{Texts}
use Rattle.md_buffer.specs.Waiting.{texts_of, IsSound}
use Rattle.md_buffer.proofs.Sound as sound
use Rattle.md_buffer.proofs.output.Output.put.Goals as goal

pub invariant_of-self-2 : goal.invariant_of-self-2
invariant_of-self-2 c =
    let o = c.self.inside in
    let outers : List Start = reverse o.outers.items in
    subst (λ bs. IsSound bs (string_bytes o.heads) o.waiting.items o.start outers)
    (sym c.in_ok-push_str.ensures.bytes)
    (sound.put (string_bytes o.bytes) c.args.text.now (string_bytes o.heads) o.waiting.items o.start
    outers c.self.invariant)

pub returns : goal.returns
returns c =
    let o = c.self.inside in
    let outers : List Start = reverse o.outers.items in
    ap (λ bs. texts_of bs (string_bytes o.heads) o.waiting.items o.start outers)
    c.in_ok-push_str.ensures.bytes
    ∙ sound.put_texts (string_bytes o.bytes) c.args.text.now (string_bytes o.heads) o.waiting.items
    o.start outers c.self.invariant
    ∙ ap (λ (t : Texts). record { text = t.text ++ c.args.text.now; below = t.below })
    c.self.view_is
