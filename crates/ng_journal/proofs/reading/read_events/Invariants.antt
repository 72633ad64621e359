use Rattle.std.proofs.Common.{◌≡◌, ◌+◌, ◌≤◌, length}
use Rattle.ng_journal.specs.Reading.{events_from, lines_of}
use Rattle.ng_journal.proofs.Events.{onto}
use Rattle.ng_journal.proofs.reading.read_events.Given as goal

abbrev pub invariant-loop-event : goal.invariant-loop-event
invariant-loop-event l = record {
  read : events_from 2 (lines_of l.fn.text) ≡ onto l.events.items (events_from l.line (lines_of l.rest));
  few : l.line + length l.rest ≤ length l.fn.text + 2;
}

abbrev pub decreases-loop-event : goal.decreases-loop-event
decreases-loop-event l = length l.rest
