-- The state of a bpf node, as the node keeps it: its hooks are those of what it keeps.
use Rattle.std.specs.Prelude.{List}
use Rattle.ng_machine.specs.kinds.Bpf.{Filter}
use Rattle.ng_machine.specs.State.{State, BpfState}
use Rattle.ng_filter_types.specs.bpf.Filters.{hooks_of}

abbrev pub bpf_state : List Filter → State
bpf_state s = record { hooks = hooks_of s; kept = BpfState s }
