use Rattle.std.proofs.Common.{take}
use Rattle.ng_plan.specs.lookup.ByName.{IsIndexed}
use Rattle.ng_plan.proofs.lookup.by_name.places_of.Given as goal

abbrev pub invariant-loop-place : goal.invariant-loop-place
invariant-loop-place g l = IsIndexed g.T.Named.name_of (take l.place l.entries) l.places
