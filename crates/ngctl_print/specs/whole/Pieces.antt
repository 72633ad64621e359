-- A text that is gathered in memory and put into a sink piece by piece. `old` and `new` are what the sink held and holds,
-- where it tells, and `before` and `after` its counts of faults.
use Rattle.std.specs.Prelude.{ℕ, ◌≤◌, List, Option, Result, OnOk, OnErr, IsErrOf}
use Rattle.ng_outside.specs.Count.{Rose}
use Rattle.ng_outside.specs.Write.{AppendsPrefix, Written}
use Rattle.ngctl_print.specs.declared.stop.PrintStop.{PrintStop}
use Rattle.ngctl_print.specs.declared.stop.PrintStop.TheVariants.{Fault}

-- the bytes that are gathered, and how often there was no memory for more
pub record Gathered : Type 0 where
  pub bytes : List ℕ
  pub faults : ℕ

-- The sink has all of the text but what is still gathered. Where that stops it has a prefix of the text, and it stops for
-- a fault only where the sink has counted one.
pub record Gathers (old new : Option (List ℕ)) (before after : ℕ) (result : Result (Unit {0}) PrintStop) (text gathered : List ℕ)
    : Type 0 where
  pub whole : OnOk result (Written old new text gathered)
  pub prefix : OnErr result (AppendsPrefix old new text)
  pub counts : before ≤ after
  pub cause : IsErrOf result Fault → Rose before after
