-- An iteration adds a value that follows ` id=`.
use Rattle.std.proofs.Common.{map, string_bytes, sym, append-nil}
use Rattle.md_page.proofs.Parts.{parts-run, parts-none}
use Rattle.md_page.proofs.TakenIds.{id-turn}
use Rattle.md_page.proofs.taken.ids_of.Goals as goal

pub returns-in_default-split_at_byte : goal.returns-in_default-split_at_byte
returns-in_default-split_at_byte c =
    let parts = c.in-Some.ensures.parts in
    rw (← c.loop-before.invariant.0, parts.0)
    (rw (parts-run c.in-Some.before.now c.in-Some.after.now parts.1)
    (rw (parts-none c.in-Some.after.now c.in_default-split_at_byte.ensures.parts)
    (sym (append-nil (map string_bytes c.loop-before.found.items)))))

pub loop-before-preserved : goal.loop-before-preserved
loop-before-preserved c =
    let parts = c.in-Some.ensures.parts in
    let more = c.in-Some-split_at_byte.ensures.parts in (
      id-turn c.in-Some.before.now c.in-Some-split_at_byte.value.now
          c.in-Some-split_at_byte.more.now (map string_bytes c.loop-before.found.items)
          parts.0 parts.1 more.0 more.1 c.in_ok-push_id.ensures c.loop-before.invariant.0,
      c.in-Some-split_at_byte.ensures.texts.1,
    )

pub returns : goal.returns
returns c =
    rw (← c.loop-before.invariant.0, parts-none c.loop-before.rest.now c.in_default.ensures.parts)
    (sym (append-nil (map string_bytes c.loop-before.found.items)))
