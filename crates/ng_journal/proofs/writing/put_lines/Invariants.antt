use Rattle.std.proofs.Common.{◌≡◌, ◌++◌}
use Rattle.std.specs.List.{flat_map}
use Rattle.ng_journal.specs.Journal.{event_line}
use Rattle.ng_journal.proofs.writing.put_lines.Given as goal

abbrev pub invariant-loop-event : goal.invariant-loop-event
invariant-loop-event l = l.out.items ≡ l.initial.out.items ++ flat_map event_line l.yielded
