-- The URL is one more piece, if it changed.
use Rattle.std.proofs.Common.{List, ℕ, option_map, sym, ap, ◌∙◌, subst}
use Rattle.md_urls.specs.declared.base.Base.{Base}
use Rattle.md_writer.specs.Added.{AreAdded}
use Rattle.md_writer.proofs.Adding.{adds-piece}
use Rattle.md_writer.proofs.added.Added.push_resolved.Goals as goal

pub invariant_of-self-else-is_err : goal.invariant_of-self-else-is_err
invariant_of-self-else-is_err c =
    let own = ap (option_map {T = Base} (λ base. base.url.now)) c.in-Some.is in
    subst (λ base. AreAdded base c.push_resolved-resolved.new.text.items) (sym own)
    (adds-piece c.in-Some.base.url.now c.self.inside.bytes.items
    c.push_resolved-resolved.new.text.items c.args.url.now c.push_resolved-resolved.result
    (sym c.is_err.ensures.value ∙ c.if-is_err.false) c.push_resolved-resolved.ensures.changed
    c.push_resolved-resolved.ensures.text
    (subst (λ base. AreAdded base c.self.inside.bytes.items) own c.self.invariant))
