-- As in `read`, of two events at once, an entry and its own exit; and the exit's index doesn't
-- overflow, as an event is there. The search doesn't go through the first event to the second:
-- `Leaves` does.
use Rattle.std.proofs.Common.{rules, suc, ◌<◌, add-one, ap, ◌∙◌, length}
use Rattle.md_tree.proofs.Common.{slice_get_within, err_from_is_err_and, ending_after, input_of}
use Rattle.md_tree.proofs.Common.{course_of}
use Rattle.md_tree.proofs.Leaves.{Runs-leaf, IsRefusal-leaf, passed-leaf_more, first_index-leaf}
use Rattle.md_tree.proofs.reader.Reader.read_named.Goals as goal

pub returns-in_err-leaf-clause-refused : goal.returns-in_err-leaf-clause-refused
returns-in_err-leaf-clause-refused c =
    let p = err_from_is_err_and c.from_residual.result c.from_residual.ensures.1 in
    let events = c.args.input.events.now in
    rw (p.1, p.2)
    (IsRefusal-leaf (input_of events c.args.input.bytes.now c.args.input.names.now) c.args.index
    c.args.event c.args.exit.now c.requires.leaf c.requires.here c.requires.after
    (course_of events c.args.index c.args.self.now.walk) c.requires.before.walked
    c.in_err-leaf.field-0.0 c.in_err-leaf.ensures.refused)

pub overflow_add-index : goal.overflow_add-index
overflow_add-index c =
    let inside : suc c.args.index < length c.args.input.events.now =
    slice_get_within c.args.input.events.now (suc c.args.index) c.args.exit.now c.requires.after in
    search (rules, inside)

pub returns-clause-read : goal.returns-clause-read
returns-clause-read c =
    let events = c.args.input.events.now in
    let given = input_of events c.args.input.bytes.now c.args.input.names.now in
    let index = c.args.index in
    let entry = c.args.event in
    let exit = c.args.exit.now in
    let self = c.args.self.now in
    record {
      walked = Runs-leaf given index entry exit c.requires.leaf c.requires.here c.requires.after
          (course_of events index self.walk) c.requires.before.walked
          (course_of events (suc (suc index)) c.leaf.new.self) c.in_ok-leaf.ensures.ok;
      passed = passed-leaf_more given index entry exit c.requires.leaf c.requires.here
          c.requires.after self.pass c.leaf-2.new.self c.requires.before.passed
          c.in_ok-leaf-2.ensures;
      first_ending = c.note_ending.ensures
          ∙ ap (λ n. ending_after self.first_ending n exit) (add-one index)
          ∙ first_index-leaf given index entry exit c.requires.leaf c.requires.here c.requires.after
          self.first_ending c.requires.before.first_ending;
    }
