-- One value after another.
use Rattle.std.proofs.Common.{◌∙◌, ◌&&◌, sym, ap, refl, None, []}
use Rattle.std.specs.BTreeSet.{contains_text}
use Rattle.md_reader.specs.ScannedIds.{are_new, scanned}
use Rattle.md_reader.proofs.ScannedIds.{new-distinct, next-value, no-end, no-value}
use Rattle.md_reader.proofs.ids.have_distinct_ids.Goals as goal

pub loop-before-init : goal.loop-before-init
loop-before-init c = (
  new-distinct (contains_text c.new-seen.result) (λ w. rw c.new-seen.ensures.empty refl)
      (scanned None [] c.args.text.now),
  c.utf8.text,
)

pub returns-in_default-split_at_quote : goal.returns-in_default-split_at_quote
returns-in_default-split_at_quote c =
    let parts = c.in-Some.ensures.parts in
    sym (ap (are_new (contains_text c.loop-before.seen)) (ap (scanned None []) parts.0
    ∙ no-end c.in-Some.before.now c.in-Some.after.now parts.1
    c.in_default-split_at_quote.ensures.parts))
    ∙ c.loop-before.invariant.0

pub returns : goal.returns
returns c =
    sym (ap (are_new (contains_text c.loop-before.seen))
    (no-value None [] c.loop-before.rest.now c.in_default.ensures.parts))
    ∙ c.loop-before.invariant.0

pub returns-then-not-branch : goal.returns-then-not-branch
returns-then-not-branch c =
    let seen = contains_text c.loop-before.seen in
    let more = scanned None [] c.in-Some-split_at_quote.more.now in
    let next = next-value c.in-Some.before.now c.in-Some-split_at_quote.value.now
    c.in-Some-split_at_quote.more.now c.in-Some.ensures.parts.0 c.in-Some.ensures.parts.1
    c.in-Some-split_at_quote.ensures.parts.0 c.in-Some-split_at_quote.ensures.parts.1 in
    sym (ap (are_new seen) next ∙ c.in_ok-add_if_id.ensures more
    ∙ ap (λ b. b && are_new (contains_text c.add_if_id.new.seen) more) c.if-not-branch.true)
    ∙ c.loop-before.invariant.0

pub loop-before-preserved : goal.loop-before-preserved
loop-before-preserved c =
    let seen = contains_text c.loop-before.seen in
    let more = scanned None [] c.in-Some-split_at_quote.more.now in
    let next = next-value c.in-Some.before.now c.in-Some-split_at_quote.value.now
    c.in-Some-split_at_quote.more.now c.in-Some.ensures.parts.0 c.in-Some.ensures.parts.1
    c.in-Some-split_at_quote.ensures.parts.0 c.in-Some-split_at_quote.ensures.parts.1 in (
      sym (ap (are_new seen) next ∙ c.in_ok-add_if_id.ensures more
          ∙ ap (λ b. b && are_new (contains_text c.add_if_id.new.seen) more) c.if-not-branch.false)
          ∙ c.loop-before.invariant.0,
      c.in-Some-split_at_quote.ensures.text,
    )
