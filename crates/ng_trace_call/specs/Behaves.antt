-- What holds of each call of a trace, for all files and sinks, and blank nodes of all types.
use Rattle.std.specs.Prelude.{◌≡◌, ◌≢◌, ◌⊎◌, ℕ, List, Option, Some, None}
use Rattle.ng_base.specs.declared.kind.Kind.{Kind}
use Rattle.ng_call.specs.ending.Behaves.{Behaves, FaultComes, IsGiven, LeavesPrefix, ReadsOnly, UsageComes}
use Rattle.ng_call.specs.ending.Causes.{NoReadFailed, NoWriteFailed}
use Rattle.ng_call.specs.ending.Ends.{IsDone}
use Rattle.ng_call.specs.ending.Outside.{Outside, Same}
use Rattle.ng_call.specs.ending.Steps.{first_fault}
use Rattle.ng_call.specs.ending.Task.{call_of, memory_status, writing_status}
use Rattle.ng_call.specs.Run.{setting_in}
use Rattle.ng_args.specs.declared.words.ReplayWords.{ReplayWords}
use Rattle.ng_replay.specs.judge.Verdict.{IsVerdict}
use Rattle.ng_replay.specs.declared.judge.verdict.Verdict.{Verdict}
use Rattle.ng_replay.specs.declared.judge.verdict.Verdict.TheVariants as says
use Rattle.ng_replay.specs.declared.ended.Replayed.{Replayed}
use Rattle.ng_replay.specs.declared.ended.ReplayFault.{ReplayFault}
use Rattle.ng_replay.specs.declared.ended.ReplayFault.TheVariants.{No, NoMemory}
use Rattle.ng_replay.specs.Call.{AllFound, events_in, fault_by, run_of, steps_in}
use Rattle.ng_replay.specs.Ends.{told}
use Rattle.ng_replay.specs.Faults.{fault_status, status_of}
use Rattle.ng_trace_call.specs.Call.{trace_task, writes_by}

module _ (kinds : List Kind) (said : Option ReplayWords) (o : Outside) (fault : Option ReplayFault) where
  -- where no fault is there, and no count of faults rose, the verdict comes, unless memory ran out
  abbrev pub Judges : Type 0
  Judges =
      (words : ReplayWords) (found : AllFound) (verdict : Verdict) → IsGiven (trace_task kinds) said o words found
      → first_fault o.old.files (steps_in words found) ≡ None
      → IsVerdict (setting_in kinds (run_of words) found.given) (events_in found) verdict
      → NoReadFailed o (steps_in words found) → NoWriteFailed o (writes_by kinds words found verdict)
      → (fault ≡ fault_by verdict) ⊎ (fault ≡ Some NoMemory)

  -- with no fault all was in form, the journal is orderly and whole, and the sink has grown by the text of its trace
  abbrev pub Accepts : Type 0
  Accepts =
      (words : ReplayWords) (found : AllFound) → IsGiven (trace_task kinds) said o words found → fault ≡ None
      → IsDone (call_of (trace_task kinds) words found) o says.Yes

  -- After a no all was in form and nothing was written: this event is the first that isn't allowed, or the journal
  -- isn't whole.
  abbrev pub Refuses : Type 0
  Refuses =
      (words : ReplayWords) (found : AllFound) (at : ℕ) → IsGiven (trace_task kinds) said o words found
      → fault ≡ Some (No at) → IsDone (call_of (trace_task kinds) words found) o (says.No at)

-- with a fault that is neither that of a write nor of memory nothing was written
abbrev pub RefusesQuietly : Outside → Option ReplayFault → Type 0
RefusesQuietly o fault =
    (f : ReplayFault) → fault ≡ Some f → fault_status f ≢ writing_status → fault_status f ≢ memory_status
    → Same o.old o.now

pub record IsTraceCall (kinds : List Kind) (said : Option ReplayWords) (o : Outside) (traced : Replayed)
    : Type 0 where
  pub verdict : Verdict
  pub stop : Option ReplayFault
  pub behaves : Behaves (trace_task kinds) said o traced.status verdict stop
  pub fault_is : traced.fault ≡ told verdict stop
  pub no_is : (at : ℕ) → traced.fault ≡ Some (No at) → (verdict ≡ says.No at) × (stop ≡ None)  -- a no is a verdict
  pub status_is : traced.status ≡ status_of traced.fault
  pub usage : UsageComes (trace_task kinds) said traced.fault
  pub comes : FaultComes (trace_task kinds) said o traced.fault
  pub judges : Judges kinds said o traced.fault
  pub accepts : Accepts kinds said o traced.fault
  pub refuses : Refuses kinds said o traced.fault
  pub reads : ReadsOnly (trace_task kinds) said o traced.fault
  pub prefix : LeavesPrefix (trace_task kinds) said o says.Yes traced.fault
  pub quiet : RefusesQuietly o traced.fault
