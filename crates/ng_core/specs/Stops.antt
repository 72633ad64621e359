-- The run after a Stop, where there is one.
use Rattle.std.specs.Prelude.{Bool, true, false}
use Rattle.ng_machine.specs.Run.{RunState, stop}
use Rattle.ng_queue.specs.pending.Holds.{in_world}

abbrev pub stopped_run : Bool → RunState → RunState
stopped_run true a = in_world a (stop a.world)
stopped_run false a = a
