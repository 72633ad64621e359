use Rattle.std.proofs.Common.{◌≡◌, ◌≤◌, ◌^◌, drop}
use Rattle.ng_shape.specs.Values.{are_ascending, members_of}
use Rattle.ng_shape.proofs.members.are_ascending.Given as goal

abbrev pub invariant-loop-member : goal.invariant-loop-member
invariant-loop-member l = record {
  low : l.low ≤ 2 ^ 64;
  rest : are_ascending l.low (members_of (drop l.member-index l.members)) ≡ are_ascending 0 (members_of l.members);
}
