use Rattle.std.proofs.Common.{◌≡◌, drop}
use Rattle.ng_shape.specs.Values.{members_of}
use Rattle.ng_parse.specs.Reading.{has}
use Rattle.ng_parse.proofs.reading.has.Given as goal

abbrev pub invariant-loop-member : goal.invariant-loop-member
invariant-loop-member l = has l.number (members_of (drop l.member-index l.members)) ≡ has l.number (members_of l.members)
