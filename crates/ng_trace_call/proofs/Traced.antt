-- The call is one of two tasks, so what holds of each task holds of it.
use Rattle.std.proofs.Common.{◌≡◌, ◌≢◌, ◌⊎◌, ℕ, true, List, [], ◌∷◌, Option, Some, None, refl, sym, subst}
use Rattle.ng_base.specs.declared.event.Event.{Event}
use Rattle.ng_base.specs.declared.kind.Kind.{Kind}
use Rattle.ng_args.specs.declared.words.ReplayWords.{ReplayWords}
use Rattle.ng_args.specs.declared.words.Source.TheVariants.{FromFiles}
use Rattle.ng_call.specs.Found.{Found}
use Rattle.ng_call.specs.Steps.{capture_steps, script_steps}
use Rattle.ng_call.specs.ending.Causes.{NoneChecked, NoneReads}
use Rattle.ng_call.specs.ending.Outside.{Outside, Same}
use Rattle.ng_call.specs.ending.Task.{EndsWith}
use Rattle.ng_call.proofs.GivenSorts.{AreElse, captures_checked, captures_read, script_checked}
use Rattle.ng_call.proofs.Told as run
use Rattle.ng_call.proofs.ending.Behaves.{IsTask, behaves, is_outside}
use Rattle.ng_call.proofs.ending.Sorts.{both_checked, both_reads}
use Rattle.ng_replay.specs.Call.{names}
use Rattle.ng_replay.specs.Faults.{fault_status, status_of}
use Rattle.ng_replay.specs.declared.ended.Replayed.{Replayed}
use Rattle.ng_replay.specs.declared.ended.ReplayFault.{ReplayFault}
use Rattle.ng_replay.specs.declared.ended.ReplayFault.TheVariants.{NoMemory, Usage}
use Rattle.ng_trace_call.specs.PlainCall.{IsPlainCall, PlainEnds, plain_steps, plain_task}
use Rattle.ng_trace_call.specs.Traced.{IsTraced, TracedEnds}
use Rattle.ng_trace_call.specs.declared.words.TraceWords.{TraceWords}
use Rattle.ng_trace_call.specs.declared.words.TraceWords.TheVariants.{Follow, Plain}
use Rattle.ng_trace_call.proofs.Behaves.{is_trace_call}
use Rattle.ng_trace_call.proofs.PlainTracing as plain
use Rattle.ng_trace_call.proofs.Tracing as follow

-- what is looked for has the status 65
abbrev IsOutside : ReplayFault → Type 0
IsOutside f = is_outside (fault_status f) ≡ true

plain_checked : (words : ReplayWords) (found : Found) → NoneChecked IsOutside (plain_steps words found)
plain_checked words found =
    let other : AreElse IsOutside names = record {
      big_script = λ is. cc is;
      wrong_script = λ fault is. cc is;
      big_capture = λ port is. cc is;
      wrong_capture = λ port why is. cc is;
    } in
    both_checked IsOutside (script_steps names words.script found.script) (capture_steps names 0 0 0 words.ports found.captures)
    (script_checked IsOutside names other words.script found.script) (captures_checked IsOutside names other 0 0 0 words.ports found.captures)

abbrev IsElsewhere : ReplayFault → Type 0
IsElsewhere f = fault_status f ≢ 66

plain_read : (words : ReplayWords) (found : Found) → NoneReads IsElsewhere (plain_steps words found)
plain_read words found =
    both_reads IsElsewhere (script_steps names words.script found.script) (capture_steps names 0 0 0 words.ports found.captures)
    ((λ differs. differs refl), tt) (captures_read IsElsewhere names (λ port differs. differs refl) 0 0 0 words.ports found.captures)

is_task : (kinds : List Kind) → IsTask (plain_task kinds)
is_task kinds = record {
  one = λ files words a b. run.found_is files (FromFiles words.script words.ports) a b;
  checked = plain_checked;
  read = plain_read;
  written = λ words found journal. ((λ differs. differs refl), tt);
  usage = refl;
  memory = refl;
}

is_plain_call : (kinds : List Kind) (words : ReplayWords) (o : Outside) (traced : Replayed)
    → traced.status ≡ status_of traced.fault → PlainEnds kinds words o traced.fault → IsPlainCall kinds words o traced
is_plain_call kinds words o traced status_is ends =
    let e : EndsWith (plain_task kinds) words o traced.status ends.journal traced.fault =
    subst (λ (n : ℕ). EndsWith (plain_task kinds) words o n ends.journal traced.fault) (sym status_is) ends.ends in
    record {
      journal = ends.journal;
      behaves = behaves (plain_task kinds) (is_task kinds) (Some words) (λ w found made is. (tt, tt)) o traced.status ends.journal traced.fault e;
      status_is = status_is;
    }

pub is_traced : (kinds : List Kind) (said : Option TraceWords) (o : Outside) (traced : Replayed)
    → traced.status ≡ status_of traced.fault → TracedEnds kinds said o traced.fault → IsTraced kinds said o traced
is_traced kinds None o traced status_is ends = is_trace_call kinds None o traced status_is ends
is_traced kinds (Some (Follow words)) o traced status_is ends = is_trace_call kinds (Some words) o traced status_is ends
is_traced kinds (Some (Plain words)) o traced status_is ends = is_plain_call kinds words o traced status_is ends

-- by what the words say

pub memory_ends : (kinds : List Kind) (said : Option TraceWords) (o : Outside) → Same o.old o.now → TracedEnds kinds said o (Some NoMemory)
memory_ends kinds None o same = follow.memory_ends kinds None o same
memory_ends kinds (Some (Follow words)) o same = follow.memory_ended kinds words o same
memory_ends kinds (Some (Plain words)) o same = plain.memory_ended kinds words o same

pub usage_ends : (kinds : List Kind) (said : Option TraceWords) (o : Outside) → said ≡ None → Same o.old o.now → TracedEnds kinds said o (Some Usage)
usage_ends kinds said o is same =
    subst (λ (s : Option TraceWords). TracedEnds kinds s o (Some Usage)) (sym is) (follow.usage_ends kinds None o refl same)
