-- The trace of the run of no workers.
use Rattle.std.specs.Prelude.{◌≡◌, ℕ, List, map}
use Rattle.ng_base.specs.declared.event.Event.{Event}
use Rattle.ng_base.specs.declared.kind.Kind.{Kind}
use Rattle.ng_machine.specs.declared.input.Input.{Input}
use Rattle.ng_args.specs.declared.words.ReplayWords.{ReplayWords}
use Rattle.ng_call.specs.Run.{IsRun, setting_of}
use Rattle.ng_replay.specs.Call.{run_of}
use Rattle.ng_trace.specs.Trace.{trace_of}

-- the journal is the plain one of these inputs, and the text is its trace
pub record IsPlainTrace (kinds : List Kind) (words : ReplayWords) (inputs : List Input) (text : List ℕ) : Type 0 where
  pub journal : List Event
  pub run : IsRun (setting_of kinds (run_of words) inputs) words.workers journal
  pub text_is :
      text ≡ trace_of (map (λ port. port.name) words.ports) (setting_of kinds (run_of words) inputs) journal
