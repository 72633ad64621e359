-- The call of a run is a task, so what holds of each task holds of it; and its journal keeps the laws.
use Rattle.std.proofs.Common.{inl, inr, ℕ, List, Option, Some, None, refl, sym, subst}
use Rattle.ng_base.specs.declared.event.Event.{Event}
use Rattle.ng_base.specs.declared.kind.Kind.{Kind}
use Rattle.ng_machine.specs.Laws.{IsJournal}
use Rattle.ng_machine.proofs.Lawful.{keeps_laws}
use Rattle.ng_args.specs.Run.{words_of}
use Rattle.ng_args.specs.declared.words.Words.{Words}
use Rattle.ng_call.specs.Behaves.{IsRunCall, IsLawful}
use Rattle.ng_call.specs.Call.{run_task}
use Rattle.ng_call.specs.Found.{Found}
use Rattle.ng_call.specs.Run.{setting_in}
use Rattle.ng_call.specs.declared.ended.Ended.{Ended}
use Rattle.ng_call.specs.ending.Ends.{Ends}
use Rattle.ng_call.specs.ending.Outside.{Outside}
use Rattle.ng_call.specs.ending.Task.{EndsBy, call_of}
use Rattle.ng_call.proofs.ending.Behaves.{IsTask, behaves}
use Rattle.ng_call.proofs.Apart.{writes_apart}
use Rattle.ng_call.proofs.Sorts.{none_checked, none_read, none_written}
use Rattle.ng_call.proofs.Told.{found_is}

pub is_task : (kinds : List Kind) → IsTask (run_task kinds)
is_task kinds = record {
  one = λ files words a b. found_is files words.source a b;
  checked = λ words found. none_checked _ (λ which is. cc is) (λ fault is. cc is) (λ port why is. cc is) words.source found;
  read = λ words found. none_read _ (λ which differs. differs refl) words.source found;
  written = λ words found journal. none_written _ (λ which differs. differs refl) kinds words found journal;
  usage = refl;
  memory = refl;
}

-- the journal is orderly, however the call ends
orderly : (kinds : List Kind) (words : Words) (found : Found) (o : Outside) (journal : List Event) (fault : Option _)
    → Ends (call_of (run_task kinds) words found) o journal fault → IsJournal (setting_in kinds words found) journal
orderly kinds words found o journal None e = e.ran.orderly
orderly kinds words found o journal (Some f) (inl e) = subst (IsJournal (setting_in kinds words found)) (sym e.nothing) tt
orderly kinds words found o journal (Some f) (inr (inl e)) = e.part
orderly kinds words found o journal (Some f) (inr (inr e)) = e.ran.orderly

is_lawful : (kinds : List Kind) (said : Option Words) (o : Outside) (ended : Ended)
    → EndsBy (run_task kinds) said o ended.status ended.journal.items ended.fault → IsLawful kinds said o ended
is_lawful kinds None o ended e = tt
is_lawful kinds (Some words) o ended e =
    (e, keeps_laws (setting_in kinds words e.input) ended.journal.items (orderly kinds words e.input o ended.journal.items ended.fault e.ends))

-- of the words in a list
pub is_run_call : (kinds : List Kind) (list : List (List ℕ)) (o : Outside) (ended : Ended)
    → EndsBy (run_task kinds) (words_of list) o ended.status ended.journal.items ended.fault → IsRunCall kinds (words_of list) o ended
is_run_call kinds list o ended e =
    let all =
    behaves (run_task kinds) (is_task kinds) (words_of list) (λ words found journal is. writes_apart list kinds words found journal is) o ended.status
    ended.journal.items ended.fault e in
    record {
      behaves = all;
      plain = λ words found given none ran. (all.whole words found given ran).plain none;
      lawful = is_lawful kinds (words_of list) o ended e;
    }
