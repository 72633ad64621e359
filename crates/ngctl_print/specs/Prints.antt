-- What a print into a sink does. `old` and `new` are what the sink held and holds, where it tells, and
-- `before` and `after` its counts of faults.
use Rattle.std.specs.Prelude.{ℕ, ◌≤◌, List, Option, Result, OnOk, OnErr, IsErrOf}
use Rattle.std.specs.Io.KnownBytes.{Appends}
use Rattle.ng_outside.specs.Count.{Rose}
use Rattle.ng_outside.specs.Write.{AppendsPrefix}
use Rattle.ngctl_print.specs.declared.stop.PrintStop.{PrintStop}
use Rattle.ngctl_print.specs.declared.stop.PrintStop.TheVariants.{Fault}

-- the text is put whole, or a front of it where the print stops; it stops for a fault only where the
-- sink has counted one
pub record Prints (old new : Option (List ℕ)) (before after : ℕ) (result : Result (Unit {0}) PrintStop) (text : List ℕ) : Type 0 where
  pub whole : OnOk result (Appends old new text)
  pub front : OnErr result (AppendsPrefix old new text)
  pub counts : before ≤ after
  pub cause : IsErrOf result Fault → Rose before after
