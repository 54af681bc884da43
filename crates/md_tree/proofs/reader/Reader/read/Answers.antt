-- The state after one more event, or its refusal. The search applies neither lemma.
use Rattle.md_tree.proofs.Common.{err_from_is_err_and, input_of, course_of}
use Rattle.md_tree.proofs.OneMoreEvent.{read-more, stopped-refused}
use Rattle.md_tree.proofs.reader.Reader.read.Goals as goal

pub returns-in_err-step-clause-refused : goal.returns-in_err-step-clause-refused
returns-in_err-step-clause-refused c =
    let p = err_from_is_err_and c.from_residual.result c.from_residual.ensures.1 in
    let input = c.args.input in
    rw (p.1, p.2)
    (stopped-refused (input_of input.events.now input.bytes.now input.names.now) c.args.index
    c.args.event (course_of input.events.now c.args.index c.args.self.now.walk)
    c.in_err-step.field-0.0 c.requires.here c.requires.before.walked c.in_err-step.ensures.refused)

pub returns-clause-read : goal.returns-clause-read
returns-clause-read c =
    let input = c.args.input in
    read-more input.bytes.now input.names.now input.events.now c.args.index
    c.args.event c.args.self.now _ c.requires.here c.requires.before c.in_ok-step.ensures.ok
    c.in_ok-find.ensures c.note_ending.ensures
