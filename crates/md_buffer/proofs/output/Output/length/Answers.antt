-- No text is shorter than its bytes. The search alone cites no lemma on nested texts.
use Rattle.std.proofs.Common.{rules, ◌≡◌, List, length, ap, arith, reverse}
use Rattle.std.specs.Prelude.{string_bytes}
use Rattle.md_buffer.specs.declared.output.Start.{Start}
use Rattle.md_buffer.specs.Texts.{Texts}
use Rattle.md_buffer.proofs.Sound as sound
use Rattle.md_buffer.proofs.output.Output.length.Goals as goal

pub overflow_sub-result : goal.overflow_sub-result
overflow_sub-result c =
    let o = c.self.inside in
    let outers : List Start = reverse o.outers.items in
    let k =
    sound.within (string_bytes o.bytes) (string_bytes o.heads) o.waiting.items o.start outers
    c.self.invariant in
    search (rules, k)

pub returns : goal.returns
returns c =
    let o = c.self.inside in
    let outers : List Start = reverse o.outers.items in
    let all : c.len.result ≡ length (string_bytes o.bytes) = search rules in
    let long =
    sound.long (string_bytes o.bytes) (string_bytes o.heads) o.waiting.items o.start outers
    c.self.invariant in
    let same = ap (λ (t : Texts). length t.text) c.self.view_is in
    omega arith
