use Rattle.std.proofs.Common.{◌≡◌, ◌++◌, take, flat_map}
use Rattle.ng_machine.specs.asking.Bytes.{type_bytes}
use Rattle.ng_machine.proofs.asking.answers.put_types.Given as goal

abbrev pub invariant-loop-kind : goal.invariant-loop-kind
invariant-loop-kind l = l.out.items ≡ l.initial.out.items ++ flat_map type_bytes (take l.kind-index l.types)
