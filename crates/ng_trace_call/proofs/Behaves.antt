-- The call of a trace is a task, so what holds of each task holds of it; and so each clause holds of the fault that is told.
use Rattle.std.proofs.Common.{◌≡◌, ◌≢◌, ◌⊎◌, inl, inr, ◌∙◌, ℕ, true, List, [], Option, Some, None, refl, sym, ap, subst}
use Rattle.ng_base.specs.declared.kind.Kind.{Kind}
use Rattle.ng_outside.specs.Contents.{Contents}
use Rattle.ng_call.specs.Found.{Found}
use Rattle.ng_call.specs.Run.{setting_in}
use Rattle.ng_call.specs.ending.Behaves.{Behaves, FaultComes, IsCutOff, IsGiven, LeavesPrefix, ReadsOnly, UsageComes}
use Rattle.ng_call.specs.ending.Causes.{Comes, EndsWell, NoReadFailed, NoWriteFailed, NoneWrites}
use Rattle.ng_call.specs.ending.Each.{AreApart}
use Rattle.ng_call.specs.ending.Ends.{Call, Ends, IsDone}
use Rattle.ng_call.specs.ending.Outside.{Outside, Same}
use Rattle.ng_call.specs.ending.Steps.{first_fault}
use Rattle.ng_call.specs.ending.Task.{EndsBy, EndsWith, call_of, writing_status}
use Rattle.ng_call.proofs.ending.Behaves.{IsTask, behaves, is_outside}
use Rattle.ng_call.proofs.ending.Rows.{ends_well, never_comes}
use Rattle.ng_call.proofs.Told as run
use Rattle.ng_args.specs.declared.words.ReplayWords.{ReplayWords}
use Rattle.ng_args.specs.declared.words.Source.TheVariants.{FromFiles}
use Rattle.ng_replay.specs.judge.Verdict.{IsVerdict}
use Rattle.ng_replay.specs.declared.judge.verdict.Verdict.{Verdict}
use Rattle.ng_replay.specs.declared.judge.verdict.Verdict.TheVariants as says
use Rattle.ng_replay.specs.declared.ended.Replayed.{Replayed}
use Rattle.ng_replay.specs.declared.ended.ReplayFault.{ReplayFault}
use Rattle.ng_replay.specs.declared.ended.ReplayFault.TheVariants.{Usage, WriteFault, No, NoMemory}
use Rattle.ng_trace_call.specs.Behaves as clauses
use Rattle.ng_trace_call.specs.Behaves.{IsTraceCall}
use Rattle.ng_trace_call.specs.Call.{trace_task, writes_by}
use Rattle.ng_replay.specs.Call.{AllFound, IsAllFound, TellAll, events_in, fault_by, run_of, steps_in}
use Rattle.ng_replay.specs.Ends.{told}
use Rattle.ng_trace_call.specs.Ends.{EndsAs}
use Rattle.ng_replay.specs.Faults.{fault_status, status_of}
use Rattle.ng_replay.proofs.Sorts.{AreElse, none_checked, none_read}
use Rattle.ng_replay.proofs.judge.Verdicts.{one_verdict}

-- THE TASK

abbrev all_found : Found → List ℕ → AllFound
all_found given journal = record { given = given; journal = journal }

-- what was read is what the files tell
found_is : (files : List ℕ → Contents) (words : ReplayWords) (a b : AllFound) → IsAllFound files words a → TellAll files words b → a ≡ b
found_is files words a b is tells =
    ap (λ (g : Found). all_found g a.journal) (run.found_is files (FromFiles words.script words.ports) a.given b.given is.0 tells.0)
    ∙ ap (λ (j : List ℕ). all_found b.given j) (run.told_is (files words.journal) a.journal b.journal is.1 tells.1)

-- what is looked for has the status 65
looked_for : (P : ℕ → Type 0) → (P 65 → ⊥) → AreElse (λ f. P (fault_status f))
looked_for P nope = record { big = λ which is. nope is; script = λ fault is. nope is; capture = λ port why is. nope is; journal = λ line is. nope is }

-- what is written has one fault, whatever the verdict is
none_written : (P : ReplayFault → Type 0) → (P WriteFault → ⊥) → (kinds : List Kind) (words : ReplayWords) (found : AllFound) (verdict : Verdict)
    → NoneWrites P (writes_by kinds words found verdict)
none_written P nope kinds words found says.Yes = (nope, tt)
none_written P nope kinds words found (says.No at) = tt

apart : (kinds : List Kind) (words : ReplayWords) (found : AllFound) (verdict : Verdict) → AreApart (writes_by kinds words found verdict)
apart kinds words found says.Yes = (tt, tt)
apart kinds words found (says.No at) = tt

is_task : (kinds : List Kind) → IsTask (trace_task kinds)
is_task kinds = record {
  one = found_is;
  checked = λ words found. none_checked (λ f. is_outside (fault_status f) ≡ true) (looked_for (λ n. is_outside n ≡ true) (λ is. cc is)) words found;
  read = λ words found. none_read (λ f. fault_status f ≢ 66) (λ which differs. differs refl) words found;
  written = none_written (λ f. fault_status f ≢ writing_status) (λ differs. differs refl) kinds;
  usage = refl;
  memory = refl;
}

-- THE FAULT THAT IS TOLD

not_unsaid : (at : ℕ) → (Some (No at) ≡ Some Usage) ⊎ (Some (No at) ≡ Some NoMemory) → ⊥
not_unsaid at (inl is) = cc is
not_unsaid at (inr is) = cc is

-- no call stops with a no
never_no : (kinds : List Kind) (said : Option ReplayWords) (o : Outside) (status : ℕ) (verdict : Verdict) (at : ℕ)
    → EndsBy (trace_task kinds) said o status verdict (Some (No at)) → ⊥
never_no kinds None o status verdict at e = not_unsaid at e.cause
never_no kinds (Some words) o status verdict at e =
    never_comes (call_of (trace_task kinds) words e.input) o verdict (λ f. fault_status f ≡ 3) (No at) refl (λ is. cc is) e.ends
    (none_checked (λ f. fault_status f ≡ 3) (looked_for (λ n. n ≡ 3) (λ is. cc is)) words e.input)
    (none_read (λ f. fault_status f ≡ 3) (λ which is. cc is) words e.input)
    (none_written (λ f. fault_status f ≡ 3) (λ is. cc is) kinds words e.input verdict)

some_same : (a b : ReplayFault) → Some a ≡ Some b → a ≡ b
some_same a b same = cc same

-- a fault that isn't a no stopped the call
stop_of : (verdict : Verdict) (stop : Option ReplayFault) (f : ReplayFault) → told verdict stop ≡ Some f → ((at : ℕ) → No at ≡ f → ⊥) → stop ≡ Some f
stop_of verdict (Some g) f is other = is
stop_of says.Yes None f is other = absurd (cc is)
stop_of (says.No at) None f is other = absurd (other at (some_same (No at) f is))

yes_of : (verdict : Verdict) (stop : Option ReplayFault) → told verdict stop ≡ None → (verdict ≡ says.Yes) × (stop ≡ None)
yes_of verdict (Some g) is = absurd (cc is)
yes_of says.Yes None is = (refl, refl)
yes_of (says.No at) None is = absurd (cc is)

no_of : (kinds : List Kind) (said : Option ReplayWords) (o : Outside) (status : ℕ) (verdict : Verdict) (stop : Option ReplayFault) (at : ℕ)
    → EndsBy (trace_task kinds) said o status verdict stop → told verdict stop ≡ Some (No at) → (verdict ≡ says.No at) × (stop ≡ None)
no_of kinds said o status verdict (Some g) at e is =
    absurd (never_no kinds said o status verdict at (subst (λ (s : Option ReplayFault). EndsBy (trace_task kinds) said o status verdict s) is e))
no_of kinds said o status says.Yes None at e is = absurd (cc is)
no_of kinds said o status (says.No n) None at e is = let same : n ≡ at = cc is in (ap (λ (k : ℕ). says.No k) same, refl)

-- a fault of another status than 3 isn't a no
else_of : (f : ReplayFault) (n : ℕ) → fault_status f ≡ n → (3 ≡ n → ⊥) → (at : ℕ) → No at ≡ f → ⊥
else_of f n is differ at same = differ (ap fault_status same ∙ is)

cut_off : (kinds : List Kind) (said : Option ReplayWords) (o : Outside) (verdict : Verdict) (f : ReplayFault)
    → IsCutOff (trace_task kinds) said o verdict f → IsCutOff (trace_task kinds) said o says.Yes f
cut_off kinds said o says.Yes f cut = cut
cut_off kinds said o (says.No at) f cut = absurd cut.fails

-- after a no nothing was written
no_writes : (kinds : List Kind) (said : Option ReplayWords) (o : Outside) (status at : ℕ) → EndsBy (trace_task kinds) said o status (says.No at) None
    → Same o.old o.now
no_writes kinds None o status at e = e.same
no_writes kinds (Some words) o status at e = e.ends.written

quietly : (kinds : List Kind) (said : Option ReplayWords) (o : Outside) (status : ℕ) (verdict : Verdict) (stop : Option ReplayFault)
    → EndsBy (trace_task kinds) said o status verdict stop → Behaves (trace_task kinds) said o status verdict stop
    → clauses.RefusesQuietly o (told verdict stop)
quietly kinds said o status verdict (Some g) e b = λ f is written memory. (b.quiet f is written memory).1
quietly kinds said o status says.Yes None e b = λ f is written memory. absurd (cc is)
quietly kinds said o status (says.No at) None e b = λ f is written memory. no_writes kinds said o status at e

-- THE VERDICT

module _ (kinds : List Kind) (words : ReplayWords) (found : AllFound) (o : Outside) where
  abbrev TheCall : Call ReplayFault Verdict
  TheCall = call_of (trace_task kinds) words found

  abbrev IsOne : Verdict → Type 0
  IsOne = IsVerdict (setting_in kinds (run_of words) found.given) (events_in found)

  module _ (due : Verdict) (fine : first_fault o.old.files (steps_in words found) ≡ None) (one : IsOne due)
      (reads : NoReadFailed o (steps_in words found)) (writes : NoWriteFailed o (writes_by kinds words found due)) where
    abbrev Judged : Option ReplayFault → Type 0
    Judged fault = (fault ≡ fault_by due) ⊎ (fault ≡ Some NoMemory)

    same_verdict : (verdict : Verdict) → IsOne verdict → verdict ≡ due
    same_verdict verdict is = one_verdict (setting_in kinds (run_of words) found.given) (events_in found) verdict due is one

    -- a call that writes nothing
    abbrev silent : Call ReplayFault Verdict
    silent = record TheCall { writes = λ v. [] }

    well : (fault : ReplayFault) → EndsWell TheCall (Some fault) → Judged (Some fault)
    well fault (inl none) = absurd (cc none)
    well fault (inr memory) = inr memory

    judged : (verdict : Verdict) (stop : Option ReplayFault) → Ends TheCall o verdict stop → Judged (told verdict stop)
    judged verdict None e = inl (ap fault_by (same_verdict verdict e.ran))
    judged verdict (Some fault) (inl e) =
        well fault (ends_well silent o verdict (Some fault) (inl (record { nothing = e.nothing; same = e.same; cause = e.cause })) fine reads tt)
    judged verdict (Some fault) (inr (inl e)) = inr (ap (λ (f : ReplayFault). Some f) e.cause)
    judged verdict (Some fault) (inr (inr e)) =
        let again : Ends TheCall o due (Some fault) = subst (λ (v : Verdict). Ends TheCall o v (Some fault)) (same_verdict verdict e.ran) (inr (inr e)) in
        well fault (ends_well TheCall o due (Some fault) again fine reads writes)

-- THE CALL

module _ (kinds : List Kind) (said : Option ReplayWords) (o : Outside) (status : ℕ) (verdict : Verdict) (stop : Option ReplayFault)
    (e : EndsBy (trace_task kinds) said o status verdict stop) (b : Behaves (trace_task kinds) said o status verdict stop) where
  -- the ends of a call whose files tell this
  given_ends : (words : ReplayWords) (found : AllFound) → IsGiven (trace_task kinds) said o words found
      → Ends (call_of (trace_task kinds) words found) o verdict stop
  given_ends words found given =
      let with_words : EndsWith (trace_task kinds) words o status verdict stop =
      subst (λ (s : Option ReplayWords). EndsBy (trace_task kinds) s o status verdict stop) given.said_is e in
      subst (λ (f : AllFound). Ends (call_of (trace_task kinds) words f) o verdict stop)
      (found_is o.old.files words with_words.input found with_words.is_found given.told) with_words.ends

  usage_comes : UsageComes (trace_task kinds) said (told verdict stop)
  usage_comes = record {
    comes = λ none. elim (b.usage.comes none) [ inl is ↦ inl (ap (told verdict) is) | inr is ↦ inr (ap (told verdict) is) ];
    only = λ is. b.usage.only (stop_of verdict stop Usage is (else_of Usage 64 refl (λ is. cc is)));
  }

  comes_told : (call : Call ReplayFault Verdict) (due : ReplayFault) → Comes call o stop due → Comes call o (told verdict stop) due
  comes_told call due (inl is) = inl (ap (told verdict) is)
  comes_told call due (inr (inl is)) = inr (inl (ap (told verdict) is))
  comes_told call due (inr (inr (failed, is, reading))) = inr (inr (failed, ap (told verdict) is, reading))

  fault_comes : FaultComes (trace_task kinds) said o (told verdict stop)
  fault_comes = λ words found due given first. comes_told (call_of (trace_task kinds) words found) due (b.comes words found due given first)

  judges : clauses.Judges kinds said o (told verdict stop)
  judges = λ words found due given fine one reads writes.
      judged kinds words found o due fine one reads writes verdict stop (given_ends words found given)

  accepts : clauses.Accepts kinds said o (told verdict stop)
  accepts = λ words found given is.
      let accepted = yes_of verdict stop is in
      subst (λ (v : Verdict). IsDone (call_of (trace_task kinds) words found) o v) accepted.0 (b.done words found given accepted.1)

  refuses : clauses.Refuses kinds said o (told verdict stop)
  refuses = λ words found at given is.
      let refused = no_of kinds said o status verdict stop at e is in
      subst (λ (v : Verdict). IsDone (call_of (trace_task kinds) words found) o v) refused.0 (b.done words found given refused.1)

  reads_only : ReadsOnly (trace_task kinds) said o (told verdict stop)
  reads_only = λ f is of. b.reads f (stop_of verdict stop f is (else_of f 66 of (λ is. cc is))) of

  leaves_prefix : LeavesPrefix (trace_task kinds) said o says.Yes (told verdict stop)
  leaves_prefix = λ f is of.
      cut_off kinds said o verdict f (b.prefix f (stop_of verdict stop f is (else_of f 74 of (λ is. cc is))) of)

pub is_trace_call : (kinds : List Kind) (said : Option ReplayWords) (o : Outside) (traced : Replayed)
    → traced.status ≡ status_of traced.fault → EndsAs kinds said o traced.fault → IsTraceCall kinds said o traced
is_trace_call kinds said o traced status_is ends =
    let verdict = ends.verdict in
    let stop = ends.stop in
    let back : told verdict stop ≡ traced.fault = sym ends.fault_is in
    let e : EndsBy (trace_task kinds) said o traced.status verdict stop =
    subst (λ (n : ℕ). EndsBy (trace_task kinds) said o n verdict stop) (sym status_is) ends.ends in
    let b : Behaves (trace_task kinds) said o traced.status verdict stop =
    behaves (trace_task kinds) (is_task kinds) said (λ words found made is. apart kinds words found made) o traced.status verdict stop e in
    record {
      verdict = verdict;
      stop = stop;
      behaves = b;
      fault_is = ends.fault_is;
      no_is = λ at is. no_of kinds said o traced.status verdict stop at e (back ∙ is);
      status_is = status_is;
      usage = subst (λ (f : Option ReplayFault). UsageComes (trace_task kinds) said f) back (usage_comes kinds said o traced.status verdict stop e b);
      comes = subst (λ (f : Option ReplayFault). FaultComes (trace_task kinds) said o f) back (fault_comes kinds said o traced.status verdict stop e b);
      judges = subst (λ (f : Option ReplayFault). clauses.Judges kinds said o f) back (judges kinds said o traced.status verdict stop e b);
      accepts = subst (λ (f : Option ReplayFault). clauses.Accepts kinds said o f) back (accepts kinds said o traced.status verdict stop e b);
      refuses = subst (λ (f : Option ReplayFault). clauses.Refuses kinds said o f) back (refuses kinds said o traced.status verdict stop e b);
      reads = subst (λ (f : Option ReplayFault). ReadsOnly (trace_task kinds) said o f) back (reads_only kinds said o traced.status verdict stop e b);
      prefix =
          subst (λ (f : Option ReplayFault). LeavesPrefix (trace_task kinds) said o says.Yes f) back
          (leaves_prefix kinds said o traced.status verdict stop e b);
      quiet = subst (λ (f : Option ReplayFault). clauses.RefusesQuietly o f) back (quietly kinds said o traced.status verdict stop e b);
    }
