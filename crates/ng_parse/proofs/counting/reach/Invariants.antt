use Rattle.std.proofs.Common.{◌≡◌, ◌≤◌, ◌^◌, drop, max}
use Rattle.ng_shape.specs.Values.{members_of}
use Rattle.ng_parse.specs.Counts.{reach}
use Rattle.ng_parse.proofs.counting.reach.Given as goal

abbrev pub invariant-loop-member : goal.invariant-loop-member
invariant-loop-member l = record {
  high : l.reach ≤ 2 ^ 64;
  rest : max (reach (members_of (drop l.member-index l.members))) l.reach ≡ reach (members_of l.members);
}
