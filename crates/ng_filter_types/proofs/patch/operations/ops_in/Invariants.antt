use Rattle.std.proofs.Common.{◌≡◌}
use Rattle.ng_machine.specs.kinds.Patch.{ops_in}
use Rattle.ng_filter_types.proofs.patch.operations.ops_in.Given as goal

abbrev pub invariant-loop-place : goal.invariant-loop-place
invariant-loop-place l = l.list.items ≡ ops_in l.place l.fields
