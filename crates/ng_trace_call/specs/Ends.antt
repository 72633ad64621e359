-- How a trace ends. Its run makes a verdict, and a no is told as a fault.
use Rattle.std.specs.Prelude.{◌≡◌, List, Option, Some, None}
use Rattle.ng_base.specs.declared.kind.Kind.{Kind}
use Rattle.ng_call.specs.ending.Outside.{Outside}
use Rattle.ng_call.specs.ending.Task.{EndsBy}
use Rattle.ng_args.specs.declared.words.ReplayWords.{ReplayWords}
use Rattle.ng_replay.specs.Ends.{told}
use Rattle.ng_replay.specs.Faults.{status_of}
use Rattle.ng_replay.specs.declared.ended.ReplayFault.{ReplayFault}
use Rattle.ng_replay.specs.declared.judge.verdict.Verdict.{Verdict}
use Rattle.ng_trace_call.specs.Call.{trace_task}

-- the ends of a call, by what its words say
pub record EndsAs (kinds : List Kind) (said : Option ReplayWords) (o : Outside) (fault : Option ReplayFault)
    : Type 0 where
  pub verdict : Verdict
  pub stop : Option ReplayFault
  pub fault_is : fault ≡ told verdict stop
  pub ends : EndsBy (trace_task kinds) said o (status_of fault) verdict stop
