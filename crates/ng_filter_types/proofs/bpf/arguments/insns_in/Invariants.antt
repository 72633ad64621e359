use Rattle.std.proofs.Common.{◌≡◌}
use Rattle.ng_machine.specs.kinds.Bpf.{insns_in}
use Rattle.ng_filter_types.proofs.bpf.arguments.insns_in.Given as goal

abbrev pub invariant-loop-place : goal.invariant-loop-place
invariant-loop-place l = l.list.items ≡ insns_in l.place l.fields
