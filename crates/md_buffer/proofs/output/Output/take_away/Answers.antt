-- The texts before the innermost one don't depend on what is removed. The search alone cites no
-- lemma on nested texts.
use Rattle.std.proofs.Common.{[], List, ap, sym, subst, ◌∙◌, take, reverse, string_bytes}
use Rattle.std.specs.Prelude.{string_bytes}
use Rattle.std.proofs.lemmas.Str.{IsUtf8-string_bytes}
use Rattle.md_buffer.specs.declared.output.Start.{Start}
use Rattle.md_buffer.specs.Texts.{Texts}
use Rattle.md_buffer.specs.declared.heads.Head.{Head}
use Rattle.md_buffer.specs.Waiting.{texts_of, IsSound, texts_from}
use Rattle.md_buffer.proofs.Sound as sound
use Rattle.md_buffer.proofs.Ended as ended
use Rattle.md_buffer.proofs.output.Output.take_away.Goals as goal

pub forget_from-requires : goal.forget_from-requires
forget_from-requires c =
    let o = c.self.inside in
    let outers : List Start = reverse o.outers.items in
    ended.heads-boundary (string_bytes o.bytes) (string_bytes o.heads)
    o.waiting.items o.start outers
    (IsUtf8-string_bytes o.heads) c.self.invariant

pub truncate-requires : goal.truncate-requires
truncate-requires c =
    let o = c.self.inside in
    let outers : List Start = reverse o.outers.items in
    let k = sound.boundary (string_bytes o.bytes) (string_bytes o.heads) o.waiting.items o.start
    outers (IsUtf8-string_bytes o.bytes) c.self.invariant in
    λ within. (k.0, λ positive. k.1)

pub invariant_of-self : goal.invariant_of-self
invariant_of-self c =
    let o = c.self.inside in
    let outers : List Start = reverse o.outers.items in
    subst (λ bs. IsSound bs (string_bytes c.forget_from.new.heads)
    c.forget_from.new.waiting.items o.start outers)
    (sym c.truncate.ensures.bytes)
    (subst (λ hs. IsSound (take o.start.place (string_bytes o.bytes)) hs
    c.forget_from.new.waiting.items o.start outers) (sym c.forget_from.ensures.texts)
    (subst (λ (ws : List Head). IsSound (take o.start.place (string_bytes o.bytes))
    (texts_from o.start.first o.start.heads o.waiting.items (string_bytes o.heads))
    ws o.start outers) (sym c.forget_from.ensures.items) (ended.clear (string_bytes o.bytes)
    (string_bytes o.heads) o.waiting.items o.start outers c.self.invariant)))

pub returns : goal.returns
returns c =
    let o = c.self.inside in
    let outers : List Start = reverse o.outers.items in
    ap (λ bs. texts_of bs (string_bytes c.forget_from.new.heads) c.forget_from.new.waiting.items
    o.start outers) c.truncate.ensures.bytes
    ∙ ap (λ hs. texts_of (take o.start.place (string_bytes o.bytes)) hs
    c.forget_from.new.waiting.items o.start outers) c.forget_from.ensures.texts
    ∙ ap (λ (ws : List Head). texts_of (take o.start.place (string_bytes o.bytes))
    (texts_from o.start.first o.start.heads o.waiting.items (string_bytes o.heads)) ws o.start
    outers) c.forget_from.ensures.items
    ∙ ended.clear_texts (string_bytes o.bytes) (string_bytes o.heads) o.waiting.items o.start
    outers c.self.invariant
    ∙ ap (λ (t : Texts). record { text = []; below = t.below }) c.self.view_is
