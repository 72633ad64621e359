-- The text of a trace, of the run of a journal.
use Rattle.std.specs.Prelude.{ℕ, List, map, length, replicate, take}
use Rattle.ng_base.specs.declared.event.Event.{Event}
use Rattle.ng_machine.specs.Laws.{Setting, world_after}
use Rattle.ng_trace.specs.Arrivals.{arrived_of}
use Rattle.ng_trace.specs.Text.{trace_text}
use Rattle.ng_trace.specs.Watch.{watched_of}

-- the ports have these names, and the packets are those of the inputs that were fed
abbrev pub trace_of : List (List ℕ) → Setting → List Event → List ℕ
trace_of names s journal =
    trace_text names (replicate (length names) 0) (map arrived_of (take (world_after s journal).fed s.given.inputs)) (watched_of s journal)
