use Rattle.std.proofs.Common.{◌≡◌, ◌++◌, take, flat_map}
use Rattle.ng_message.specs.Layout.{node_info_bytes}
use Rattle.ng_core_apply.proofs.orders.asking.put_infos.Given as goal

abbrev pub invariant-loop-info : goal.invariant-loop-info
invariant-loop-info l = l.out.items ≡ l.initial.out.items ++ flat_map node_info_bytes (take l.info-index l.infos)
