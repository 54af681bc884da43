-- The texts end where the new one starts, and it has no heads. The search alone cites no lemma on
-- nested texts.
use Rattle.std.proofs.lemmas.Grind.{common_steps}
use Rattle.std.proofs.Common.{arith, rules, ◌≡◌, List, length, sym, subst, reverse}
use Rattle.std.specs.Prelude.{string_bytes}
use Rattle.std.proofs.lemmas.Str.{IsUtf8-string_bytes}
use Rattle.md_buffer.specs.declared.output.Start.{Start}
use Rattle.md_buffer.specs.Waiting.{IsSound}
use Rattle.md_buffer.proofs.Sound as sound
use Rattle.md_buffer.proofs.Ended as ended
use Rattle.md_buffer.proofs.output.Output.capture.Goals as goal

pub invariant_of-self-2 : goal.invariant_of-self-2
invariant_of-self-2 c =
    let o = c.self.inside in
    let outers : List Start = reverse o.outers.items in
    let next : Start =
    record { place = c.len.result; first = c.len-2.result; heads = c.len-3.result } in
    let place : c.len.result ≡ length (string_bytes o.bytes) = search rules in
    let first : c.len-2.result ≡ length o.waiting.items = search rules in
    let many : c.len-3.result ≡ length (string_bytes o.heads) = search rules in
    subst (λ (os : List Start). IsSound (string_bytes o.bytes) (string_bytes o.heads)
    o.waiting.items next os)
    (sym (ended.popped c.push.new.self.items o.outers.items o.start c.in_ok-push.ensures.items))
    (sound.capture (string_bytes o.bytes) (string_bytes o.heads) o.waiting.items o.start next outers
    (IsUtf8-string_bytes o.bytes) (IsUtf8-string_bytes o.heads) place first many c.self.invariant)

pub returns : goal.returns
returns c = grind (arith, common_steps)
