-- The graph has the ports that the loop came to.
use Rattle.std.proofs.Common.{◌≡◌, map}
use Rattle.std.specs.Prelude.{take}
use Rattle.ng_machine.specs.State.{kind_of}
use Rattle.ng_core.specs.Beginning.{start_graph}
use Rattle.ng_core.proofs.making.begin_graph.Given as goal

abbrev pub invariant-loop-port : goal.invariant-loop-port
invariant-loop-port g l = l.graph ≡ start_graph l.fn.own (take l.port-index l.fn.ports) (map (λ b. kind_of (g.B.Node.state b)) l.fn.stock.items)
