-- The measure is that of the events with the new one.
use Rattle.std.proofs.Common.{subst, sym}
use Rattle.md_measure.specs.Measured.{IsMeasured}
use Rattle.md_writer.proofs.writer.Writer.put.Goals as goal

pub invariant_of-self-2 : goal.invariant_of-self-2
invariant_of-self-2 c = record {
  measured = subst (IsMeasured c.note.new.self) (sym c.push_reserved.ensures.items)
      (c.note.ensures c.make_room.new.events.items
      (subst (IsMeasured c.args.self.now.measure) (sym c.make_room.ensures.events)
      c.args.self.now.measured));
}
