-- The texts of two adjacent parts come in sequence. The search alone cites no lemma on nested
-- texts.
use Rattle.std.proofs.Common.{◌++◌, [], List, ap, sym, subst, ◌∙◌, reverse}
use Rattle.std.specs.Prelude.{string_bytes}
use Rattle.md_buffer.specs.declared.output.Start.{Start}
use Rattle.md_buffer.specs.Texts.{Texts, first_or, others_of}
use Rattle.md_buffer.specs.Waiting.{texts_of, IsSound}
use Rattle.md_buffer.proofs.Ended as ended
use Rattle.md_buffer.proofs.output.Output.end.Goals as goal

pub invariant_of-self : goal.invariant_of-self
invariant_of-self c =
    let o = c.self.inside in
    ended.join (string_bytes o.bytes) (string_bytes o.heads) o.waiting.items o.start c.in-Some.outer
    (reverse c.pop.new.self.items)
    (subst (λ (os : List Start). IsSound (string_bytes o.bytes) (string_bytes o.heads)
    o.waiting.items o.start os)
    (ended.popped o.outers.items c.pop.new.self.items c.in-Some.outer c.in-Some.ensures.items)
    c.self.invariant)

pub returns-in-Some : goal.returns-in-Some
returns-in-Some c =
    let o = c.self.inside in
    let bytes = string_bytes o.bytes in
    let heads = string_bytes o.heads in
    let e =
    ended.popped o.outers.items c.pop.new.self.items c.in-Some.outer c.in-Some.ensures.items in
    ended.join_texts bytes heads o.waiting.items o.start c.in-Some.outer
    (reverse c.pop.new.self.items)
    (subst (λ (os : List Start). IsSound bytes heads o.waiting.items o.start os) e c.self.invariant)
    ∙ ap (λ (t : Texts). record { text = first_or [] t.below ++ t.text; below = others_of t.below })
    (ap (λ (os : List Start). texts_of bytes heads o.waiting.items o.start os) (sym e)
    ∙ c.self.view_is)
