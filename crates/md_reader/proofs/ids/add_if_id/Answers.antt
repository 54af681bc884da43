-- A value that isn't an id changes nothing.
use Rattle.std.proofs.Common.{refl, sym, ◌∙◌}
use Rattle.std.specs.BTreeSet.{contains_text}
use Rattle.md_reader.proofs.ScannedIds.{one-new}
use Rattle.md_reader.proofs.ids.add_if_id.Goals as goal

pub returns-then-not-names_id : goal.returns-then-not-names_id
returns-then-not-names_id c = λ later.
    rw (sym c.names_id.ensures ∙ c.if-not-names_id.true) refl

pub returns : goal.returns
returns c = λ later.
    rw (sym c.names_id.ensures ∙ c.if-not-names_id.false)
    (one-new (contains_text c.args.seen.now) (contains_text c.add.new.seen) c.args.value.now
    c.in_ok-is_new.is_new later c.in_ok-is_new.ensures.new c.in_ok-is_new.ensures.added)
