-- A mention with a number has a definition, and one without is unresolved. The search does no
-- induction over the identifiers.
use Rattle.md_tree.proofs.Common.{defined, footnoted}
use Rattle.md_tree.proofs.MentionsResolved.{resolved-reference, resolved-call, lost-call}
use Rattle.md_tree.proofs.resolve.referred_number.Goals as goal

pub returns-in_ok-number-in-Reference : goal.returns-in_ok-number-in-Reference
returns-in_ok-number-in-Reference c = λ mentions d f. rw (c.in-Reference.is, c.ok_or.ensures.value)
    (resolved-reference c.args.bytes.now mentions c.in-Reference.label
    c.in_ok-number-in-Reference.number
    (c.in_ok-number-in-Reference.ensures (defined c.args.bytes.now mentions) d))

pub returns-then-is_known : goal.returns-then-is_known
returns-then-is_known c = λ mentions d f.
    rw c.in-Call.is (resolved-call c.args.bytes.now mentions c.in-Call.label
    c.in_ok-is_known-in-Call.is_known
    (c.in_ok-is_known-in-Call.ensures (footnoted c.args.bytes.now mentions) f) c.if-is_known.true)

pub returns-else-is_known : goal.returns-else-is_known
returns-else-is_known c = λ mentions d f.
    rw c.in-Call.is (lost-call c.args.bytes.now mentions c.in-Call.label
    c.in_ok-is_known-in-Call.is_known
    (c.in_ok-is_known-in-Call.ensures (footnoted c.args.bytes.now mentions) f) c.if-is_known.false)
