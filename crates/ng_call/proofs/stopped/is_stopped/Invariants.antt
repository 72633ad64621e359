-- All events have a Stop exactly where those that are left have one.
use Rattle.std.proofs.Common.{◌≡◌}
use Rattle.std.specs.List.{list_any}
use Rattle.ng_call.specs.Writes.{is_stop}
use Rattle.ng_call.proofs.stopped.is_stopped.Given as goal

abbrev pub invariant-loop-event : goal.invariant-loop-event
invariant-loop-event l = list_any is_stop l.journal.items ≡ list_any is_stop l.event-iterator
