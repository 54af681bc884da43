-- The first that is the same.
use Rattle.std.proofs.Common.{◌≡◌, false, sym, ap, ◌∙◌, subst, bytes_eq}
use Rattle.std.specs.List.{list_any}
use Rattle.std.proofs.lemmas.List.{take_all}
use Rattle.md_reader.proofs.AttributeLemmas.{index-at, index-none}
use Rattle.md_reader.proofs.places.index_in.Goals as goal

pub returns-then-is_same-clause-is : goal.returns-then-is_same-clause-is
returns-then-is_same-clause-is c = sym (index-at c.args.names.now c.args.name.now
    c.loop-index.index _ c.loop-index.invariant c.loop-index-test.true
    (ap (λ x. bytes_eq c.args.name.now x) (sym c.as_bytes.ensures.value)
    ∙ sym c.is_same.ensures.value ∙ c.if-is_same.true))

pub returns-clause-is : goal.returns-clause-is
returns-clause-is c = sym (index-none c.args.names.now c.args.name.now
    (subst (λ x. list_any (λ other. bytes_eq c.args.name.now other.now) x ≡ false)
    (take_all c.loop-index.index c.args.names.now c.loop-index-test.false) c.loop-index.invariant))
