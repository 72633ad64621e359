use Rattle.ng_machine_tests.specs.counter.Passes.{IsOf, Added}
use Rattle.ng_machine_tests.proofs.counter.seats.add_times.Given as goal

-- the seat has added once for each round so far
abbrev pub invariant-loop : goal.invariant-loop
invariant-loop g l = IsOf l.turn l.pass × Added l.fn.pass l.counter l.pass
