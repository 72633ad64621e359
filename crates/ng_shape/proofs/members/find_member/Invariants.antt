use Rattle.std.proofs.Common.{◌≡◌, drop}
use Rattle.ng_shape.specs.Values.{find, members_of}
use Rattle.ng_shape.proofs.members.find_member.Given as goal

abbrev pub invariant-loop-member : goal.invariant-loop-member
invariant-loop-member l = find l.number (members_of (drop l.member-index l.members)) ≡ find l.number (members_of l.members)
