-- Ways that a packet can be worked by: of a patch, each operation is one that setconfig takes.
use Rattle.std.specs.Prelude.{◌≡◌, true}
use Rattle.std.specs.List.{list_all}
use Rattle.ng_machine.specs.kinds.Patch.{is_op}
use Rattle.ng_machine.specs.declared.plan.Plan.{Plan}
use Rattle.ng_machine.specs.declared.plan.Plan.TheVariants.{Discard, Echo, Fan, Ways, Vlan, Patch, Bpf, Ether, Socket, Bridge, Etf, Macset}

abbrev pub IsWorkable : Plan → Type 0
IsWorkable (Patch hooks ops) = list_all is_op ops ≡ true
IsWorkable Discard = Unit {0}
IsWorkable Echo = Unit {0}
IsWorkable (Fan hooks) = Unit {0}
IsWorkable (Ways kind hooks) = Unit {0}
IsWorkable (Vlan hooks kind filters) = Unit {0}
IsWorkable (Bpf ways) = Unit {0}
IsWorkable (Ether lower) = Unit {0}
IsWorkable Socket = Unit {0}
IsWorkable (Bridge config links hosts) = Unit {0}
IsWorkable (Etf hooks filters) = Unit {0}
IsWorkable (Macset hooks set) = Unit {0}
