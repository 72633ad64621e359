use Rattle.std.proofs.Common.{◌≡◌, ◌++◌, take, flat_map}
use Rattle.ng_message.specs.Layout.{node_info_bytes}
use Rattle.ng_machine.proofs.asking.answers.put_nodes.Given as goal

abbrev pub invariant-loop-node : goal.invariant-loop-node
invariant-loop-node l = l.out.items ≡ l.initial.out.items ++ flat_map node_info_bytes (take l.node-index l.nodes)
