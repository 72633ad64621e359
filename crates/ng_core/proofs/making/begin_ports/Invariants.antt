-- As many ports as the loop went round.
use Rattle.std.proofs.Common.{◌≡◌, map, replicate}
use Rattle.ng_machine.specs.World.{blank_port}
use Rattle.ng_core_state.specs.Stands.{port_of}
use Rattle.ng_core.proofs.making.begin_ports.Given as goal

abbrev pub invariant-loop : goal.invariant-loop
invariant-loop l = map port_of l.ports.items ≡ replicate l.counter blank_port
