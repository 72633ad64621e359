-- A call of a trace, by what its words say: it follows a journal, or makes the run of no workers.
use Rattle.std.specs.Prelude.{◌≡◌, List, Option, Some, None}
use Rattle.ng_base.specs.declared.kind.Kind.{Kind}
use Rattle.ng_call.specs.Said as run
use Rattle.ng_call.specs.ending.Outside.{Outside}
use Rattle.ng_replay.specs.Said.{InForm}
use Rattle.ng_replay.specs.declared.ended.Replayed.{Replayed}
use Rattle.ng_replay.specs.declared.ended.ReplayFault.{ReplayFault}
use Rattle.ng_trace_call.specs.Behaves.{IsTraceCall}
use Rattle.ng_trace_call.specs.Ends.{EndsAs}
use Rattle.ng_trace_call.specs.PlainCall.{IsPlainCall, PlainEnds}
use Rattle.ng_trace_call.specs.Words.{bare_of}
use Rattle.ng_trace_call.specs.declared.words.TraceWords.{TraceWords}
use Rattle.ng_trace_call.specs.declared.words.TraceWords.TheVariants.{Follow, Plain}
use Rattle.ng_args.specs.declared.words.ReplayWords.{ReplayWords}

abbrev pub IsTraced : List Kind → Option TraceWords → Outside → Replayed → Type 0
IsTraced kinds None o traced = IsTraceCall kinds None o traced
IsTraced kinds (Some (Follow words)) o traced = IsTraceCall kinds (Some words) o traced
IsTraced kinds (Some (Plain words)) o traced = IsPlainCall kinds words o traced

-- the ends of a call, by what its words say
abbrev pub TracedEnds : List Kind → Option TraceWords → Outside → Option ReplayFault → Type 0
TracedEnds kinds None o fault = EndsAs kinds None o fault
TracedEnds kinds (Some (Follow words)) o fault = EndsAs kinds (Some words) o fault
TracedEnds kinds (Some (Plain words)) o fault = PlainEnds kinds words o fault

-- what is known of words that are in form
pub record IsPlainForm (words : ReplayWords) : Type 0 where
  pub of_run : run.InForm (bare_of words)
  pub none : words.workers ≡ 0

abbrev pub SaidInForm : TraceWords → Type 0
SaidInForm (Follow words) = InForm words
SaidInForm (Plain words) = IsPlainForm words
