use Rattle.std.proofs.Common.{◌≡◌, ◌++◌, drop}
use Rattle.ng_machine.specs.Effect.{door_name}
use Rattle.ng_machine.specs.Spread.{leaving}
use Rattle.ng_forecast.specs.spread.Following.{AreExits}
use Rattle.ng_forecast.proofs.spread.fate.put_leaves.Given as goal

abbrev pub invariant-loop-exit : goal.invariant-loop-exit
invariant-loop-exit l = record {
  bag : l.bag.items ++ leaving l.at (door_name l.door) (drop l.exit-index l.leaves) ≡ l.fn.bag.items ++ leaving l.at (door_name l.door) l.leaves;
  exits : AreExits l.door (drop l.exit-index l.leaves);
}
