use Rattle.std.proofs.Common.{◌≡◌, ◌++◌, drop, take}
use Rattle.ng_shape.specs.Values.{find, members_of}
use Rattle.ng_parse.specs.Counts.{without}
use Rattle.ng_parse.proofs.counting.take_member.Given as goal

abbrev pub invariant-loop-at : goal.invariant-loop-at
invariant-loop-at l = record {
  same : l.members.items ≡ l.fn.members.items;
  found : find l.number (members_of (drop l.at l.fn.members.items)) ≡ find l.number (members_of l.fn.members.items);
  rest : members_of (take l.at l.fn.members.items) ++ without l.number (members_of (drop l.at l.fn.members.items)) ≡ without l.number (members_of l.fn.members.items);
}
