use Rattle.std.proofs.Common.{◌≡◌, ◌≤◌, length, map, take, Some}
use Rattle.ng_machine.specs.Generic.{infos_from}
use Rattle.ng_message.specs.Layout.{node_info_bytes}
use Rattle.ng_core_apply.specs.orders.Asked.{is_listed}
use Rattle.ng_core_apply.proofs.orders.asking.infos.Given as goal

abbrev pub invariant-loop-n : goal.invariant-loop-n
invariant-loop-n g l = record { list : map node_info_bytes l.infos.items ≡ infos_from 0 (λ r. is_listed l.named (Some r)) (take l.n l.graph.nodes); few : length l.infos.items ≤ l.n }
