-- The URL comes after the innermost text; if memory runs out, all texts are empty. The search alone
-- cites no lemma on nested texts.
use Rattle.std.proofs.Common.{◌++◌, List, ℕ, ap, sym, subst, ◌∙◌, reverse, Bor, map}
use Rattle.std.specs.Prelude.{string_bytes}
use Rattle.md_text.specs.Url.{sanitized_with}
use Rattle.md_buffer.specs.declared.output.Start.{Start}
use Rattle.md_buffer.specs.Texts.{Texts}
use Rattle.md_buffer.specs.Waiting.{texts_of, IsSound}
use Rattle.md_buffer.proofs.Sound as sound
use Rattle.md_buffer.proofs.output.Output.put_sanitized_with_protocols.Goals as goal

pub invariant_of-self : goal.invariant_of-self
invariant_of-self c =
    let o = c.self.inside in
    let outers : List Start = reverse o.outers.items in
    subst (λ bs. IsSound bs (string_bytes o.heads) o.waiting.items o.start outers)
    (sym c.in-Ok.ensures)
    (sound.put (string_bytes o.bytes) (sanitized_with (map {A = Bor (List ℕ)} {B = List ℕ}
    (λ protocol. protocol.now) c.args.protocols.now) c.args.url.now) (string_bytes o.heads)
    o.waiting.items o.start outers c.self.invariant)

pub returns-in-Ok : goal.returns-in-Ok
returns-in-Ok c =
    let o = c.self.inside in
    let outers : List Start = reverse o.outers.items in
    let more : List ℕ = sanitized_with (map {A = Bor (List ℕ)} {B = List ℕ}
    (λ protocol. protocol.now) c.args.protocols.now) c.args.url.now in
    ap (λ bs. texts_of bs (string_bytes o.heads) o.waiting.items o.start outers) c.in-Ok.ensures
    ∙ sound.put_texts (string_bytes o.bytes) more (string_bytes o.heads)
    o.waiting.items o.start outers
    c.self.invariant
    ∙ ap (λ (t : Texts). record { text = t.text ++ more; below = t.below }) c.self.view_is
