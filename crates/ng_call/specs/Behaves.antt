-- What holds of each call of a run, for all files and sinks, blank nodes of all types, and all numbers of workers.
use Rattle.std.specs.Prelude.{◌≡◌, List, Option, Some, None}
use Rattle.ng_base.specs.declared.kind.Kind.{Kind}
use Rattle.ng_machine.specs.Laws.{start}
use Rattle.ng_machine.specs.Lawful.{KeepsLaws}
use Rattle.ng_machine.specs.Plain.{IsPlain}
use Rattle.ng_args.specs.declared.words.Words.{Words}
use Rattle.ng_call.specs.ending.Behaves.{Behaves, IsGiven, HasRun}
use Rattle.ng_call.specs.ending.Outside.{Outside}
use Rattle.ng_call.specs.ending.Task.{EndsWith}
use Rattle.ng_call.specs.declared.ended.Ended.{Ended}
use Rattle.ng_call.specs.Call.{run_task}
use Rattle.ng_call.specs.Found.{Found}
use Rattle.ng_call.specs.Run.{setting_in}

module _ (kinds : List Kind) where
  -- with no worker the journal of a run that came to its end is the plain one
  abbrev pub RunsPlainly : Option Words → Outside → Ended → Type 0
  RunsPlainly said o ended =
      (words : Words) (found : Found) → IsGiven (run_task kinds) said o words found → words.workers ≡ 0
      → HasRun (run_task kinds) ended.fault
      → IsPlain (start (setting_in kinds words found)) (setting_in kinds words found).given words.budget
      ended.journal.items

  -- however the call ends its journal keeps the laws, also where it ends within the run
  abbrev pub IsLawful : Option Words → Outside → Ended → Type 0
  IsLawful None o ended = Unit {0}
  IsLawful (Some words) o ended =
      (e : EndsWith (run_task kinds) words o ended.status ended.journal.items ended.fault)
      × KeepsLaws (setting_in kinds words e.input) ended.journal.items

pub record IsRunCall (kinds : List Kind) (said : Option Words) (o : Outside) (ended : Ended) : Type 0 where
  pub behaves : Behaves (run_task kinds) said o ended.status ended.journal.items ended.fault
  pub plain : RunsPlainly kinds said o ended
  pub lawful : IsLawful kinds said o ended
