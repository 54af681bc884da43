-- A head that is pending before all others in the innermost text comes before all of it; into an
-- empty text the head itself is written. The search alone cites no lemma on nested texts.
use Rattle.std.proofs.Common.{rules, ◌≡◌, ◌<◌, ◌++◌, ℕ, List, length, refl, ap, sym, subst, ◌∙◌}
use Rattle.std.proofs.Common.{arith, reverse, append-nil}
use Rattle.std.specs.Prelude.{string_bytes}
use Rattle.std.proofs.lemmas.Str.{IsUtf8-string_bytes}
use Rattle.std.specs.Str.{IsUtf8}
use Rattle.md_buffer.specs.declared.heads.Head.{Head}
use Rattle.md_buffer.specs.declared.output.Start.{Start}
use Rattle.md_buffer.specs.Texts.{Texts}
use Rattle.md_buffer.specs.Waiting.{texts_of, text_of, IsSound}
use Rattle.md_buffer.proofs.Merged.{merged-none}
use Rattle.md_buffer.proofs.Sound as sound
use Rattle.md_buffer.proofs.HeadsBefore as headed
use Rattle.md_buffer.proofs.output.Output.put_before.Goals as goal

pub returns-then-len-self : goal.returns-then-len-self
returns-then-len-self c = grind (arith, merged-none, append-nil)

pub invariant_of-self-in_err-wait_first : goal.invariant_of-self-in_err-wait_first
invariant_of-self-in_err-wait_first c =
    let o = c.self.inside in
    let outers : List Start = reverse o.outers.items in
    subst (λ hs. IsSound (string_bytes o.bytes) hs c.wait_first.new.waiting.items o.start outers)
    (sym c.in_ok-push_str.ensures.bytes)
    (subst (λ (ws : List Head). IsSound (string_bytes o.bytes)
    (string_bytes o.heads ++ c.args.head.now) ws o.start outers)
    (sym c.in_err-wait_first.ensures.err)
    (headed.grown (string_bytes o.bytes) (string_bytes o.heads) c.args.head.now o.waiting.items
    o.start outers c.self.invariant))

pub invariant_of-self-2 : goal.invariant_of-self-2
invariant_of-self-2 c =
    let o = c.self.inside in
    let outers : List Start = reverse o.outers.items in
    let bytes : List ℕ = string_bytes o.bytes in
    let heads : List ℕ = string_bytes o.heads in
    let both : List ℕ = heads ++ c.args.head.now in
    let grown : string_bytes c.push_str.new.self ≡ both = c.in_ok-push_str.ensures.bytes in
    let head : Head =
    record { place = o.start.place; from = c.len-from.result; to = c.len-2.result } in
    let all : c.len.result ≡ length bytes = search rules in
    let from : c.len-from.result ≡ length heads = search rules in
    let to : c.len-2.result ≡ length (string_bytes c.push_str.new.self) = search rules in
    let within = sound.within bytes heads o.waiting.items o.start outers c.self.invariant in
    let inside : o.start.place < length bytes = omega (arith, c.if-len-self.false) in
    subst (λ hs. IsSound bytes hs c.wait_first.new.waiting.items o.start outers) (sym grown)
    (subst (λ (ws : List Head). IsSound bytes both ws o.start outers)
    (sym c.in_ok-wait_first.ensures.items)
    (headed.later bytes both o.waiting.items head o.start outers refl inside
    (headed.is_last heads c.args.head.now head (IsUtf8-string_bytes o.heads)
    (subst (λ t. IsUtf8 t) grown (IsUtf8-string_bytes c.push_str.new.self)) from
    (to ∙ ap (λ (t : List ℕ). length t) grown))
    (headed.grown bytes heads c.args.head.now o.waiting.items o.start outers c.self.invariant)))

pub returns : goal.returns
returns c =
    let o = c.self.inside in
    let outers : List Start = reverse o.outers.items in
    let bytes : List ℕ = string_bytes o.bytes in
    let heads : List ℕ = string_bytes o.heads in
    let both : List ℕ = heads ++ c.args.head.now in
    let grown : string_bytes c.push_str.new.self ≡ both = c.in_ok-push_str.ensures.bytes in
    let head : Head =
    record { place = o.start.place; from = c.len-from.result; to = c.len-2.result } in
    let from : c.len-from.result ≡ length heads = search rules in
    let to : c.len-2.result ≡ length (string_bytes c.push_str.new.self) = search rules in
    ap (λ hs. texts_of bytes hs c.wait_first.new.waiting.items o.start outers) grown
    ∙ ap (λ (ws : List Head). texts_of bytes both ws o.start outers)
    c.in_ok-wait_first.ensures.items
    ∙ headed.later_texts bytes both o.waiting.items head o.start outers refl
    (headed.grown bytes heads c.args.head.now o.waiting.items o.start outers c.self.invariant)
    ∙ ap (λ (t : Texts). record { text = text_of both head ++ t.text; below = t.below })
    (headed.grown_texts bytes heads c.args.head.now o.waiting.items o.start outers c.self.invariant
    ∙ c.self.view_is)
    ∙ ap (λ t. record { text = t ++ c.args.self.now.text; below = c.args.self.now.below })
    (headed.last_text heads c.args.head.now head from (to ∙ ap (λ (t : List ℕ). length t) grown))
