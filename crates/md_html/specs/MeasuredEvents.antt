-- The input that measured events are: events, bytes, names. No contract of a call for users cites
-- this.
use Rattle.md_tree.specs.Grammar.{Handed, handed}
use Rattle.md_html.specs.declared.work.MeasuredEvents.{MeasuredEvents}

-- the events, the bytes and the names
abbrev pub handed_by : MeasuredEvents → Handed
handed_by given = handed given.events.now given.bytes.now given.names.now
