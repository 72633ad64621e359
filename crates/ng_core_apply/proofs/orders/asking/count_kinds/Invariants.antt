use Rattle.std.proofs.Common.{◌≡◌, ◌≤◌, take}
use Rattle.ng_base.specs.declared.kind.Kind.{Kind}
use Rattle.ng_machine.specs.Generic.{is_of_kind}
use Rattle.ng_machine.specs.Words.{times}
use Rattle.ng_core_apply.specs.orders.Asked.{count_of}
use Rattle.ng_core_apply.proofs.orders.asking.count_kinds.Given as goal

abbrev pub invariant-loop-n : goal.invariant-loop-n
invariant-loop-n g l = (kind : Kind) → (count_of l.counts kind ≡ times (is_of_kind kind) (take l.n l.graph.nodes)) × (count_of l.counts kind ≤ l.n)
