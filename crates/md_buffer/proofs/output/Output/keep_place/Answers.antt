-- An empty head at the end changes no text. The search alone cites no lemma on nested texts.
use Rattle.std.proofs.Common.{rules, ◌≡◌, List, length, refl, ap, sym, subst, ◌∙◌, reverse}
use Rattle.std.specs.Prelude.{string_bytes}
use Rattle.std.proofs.lemmas.Str.{IsUtf8-string_bytes}
use Rattle.md_buffer.specs.declared.heads.Head.{Head}
use Rattle.md_buffer.specs.declared.output.Start.{Start}
use Rattle.md_buffer.specs.Waiting.{texts_of, IsSound}
use Rattle.md_buffer.proofs.Sound as sound
use Rattle.md_buffer.proofs.output.Output.keep_place.Goals as goal

pub invariant_of-self-2 : goal.invariant_of-self-2
invariant_of-self-2 c =
    let o = c.self.inside in
    let outers : List Start = reverse o.outers.items in
    let head : Head = record { place = c.len-place.result; from = 0; to = 0 } in
    let place : c.len-place.result ≡ length (string_bytes o.bytes) = search rules in
    subst (λ (ws : List Head). IsSound (string_bytes o.bytes)
    (string_bytes o.heads) ws o.start outers)
    (sym c.in_ok-push.ensures.items)
    (sound.keep (string_bytes o.bytes) (string_bytes o.heads) o.waiting.items head o.start outers
    (IsUtf8-string_bytes o.bytes) place refl refl c.self.invariant)

pub returns : goal.returns
returns c =
    let o = c.self.inside in
    let outers : List Start = reverse o.outers.items in
    let head : Head = record { place = c.len-place.result; from = 0; to = 0 } in
    let place : c.len-place.result ≡ length (string_bytes o.bytes) = search rules in
    ap
    (λ (ws : List Head). texts_of (string_bytes o.bytes) (string_bytes o.heads) ws o.start outers)
    c.in_ok-push.ensures.items
    ∙ sound.keep_texts (string_bytes o.bytes) (string_bytes o.heads) o.waiting.items head o.start
    outers (IsUtf8-string_bytes o.bytes) place refl refl c.self.invariant
    ∙ c.self.view_is
