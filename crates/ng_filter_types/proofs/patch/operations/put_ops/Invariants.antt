use Rattle.std.proofs.Common.{◌≡◌, ◌++◌, take, flat_map}
use Rattle.ng_machine.specs.kinds.Patch.{op_bytes}
use Rattle.ng_filter_types.proofs.patch.operations.put_ops.Given as goal

abbrev pub invariant-loop-op : goal.invariant-loop-op
invariant-loop-op l = l.out.items ≡ l.initial.out.items ++ flat_map op_bytes (take l.op-index l.ops)
