-- The instructions that are said to be there are there.
use Rattle.std.proofs.Common.{ℕ, ap, length, length-drop, arith}
use Rattle.ng_filter_types.proofs.bpf.arguments.read_way.Goals as goal

pub insns_in-requires : goal.insns_in-requires
insns_in-requires c = omega (arith, c.in-Some.ensures.3, length-drop {A = ℕ}, ap length c.bytes_from.ensures)
