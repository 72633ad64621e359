-- The call of a forecast is a task, so what holds of each task holds of it.
use Rattle.std.proofs.Common.{◌≡◌, ◌≢◌, ◌⊎◌, inl, inr, ◌∙◌, ℕ, true, false, true≢false, ◌==◌, List, [], ◌∷◌, refl, sym, ap, subst}
use Rattle.std.proofs.lemmas.Bool.{eq-eqb}
use Rattle.std.specs.declared.option.Option.{Option}
use Rattle.std.specs.declared.option.Option.TheVariants.{None, Some}
use Rattle.ng_base.specs.declared.event.Event.{Event}
use Rattle.ng_base.specs.declared.kind.Kind.{Kind}
use Rattle.ng_machine.specs.Spread.{Spread}
use Rattle.ng_machine.proofs.PlainSteps.{plain_is_one}
use Rattle.ng_outside.specs.Contents.{Contents}
use Rattle.ng_args.specs.declared.words.ForecastWords.{ForecastWords}
use Rattle.ng_args.specs.declared.words.Source.TheVariants.{FromFiles}
use Rattle.ng_call.specs.ending.Behaves.{Behaves, DoesAll}
use Rattle.ng_call.specs.ending.Ends.{Ends, IsDone}
use Rattle.ng_call.specs.ending.Outside.{Outside, FileRose, Same}
use Rattle.ng_call.specs.ending.Task.{EndsBy, call_of}
use Rattle.ng_call.specs.ending.Writes.{StopsAt, StopsFor, WritesAll}
use Rattle.ng_call.proofs.ending.Behaves.{IsTask, behaves, is_outside}
use Rattle.ng_call.specs.Found.{Found}
use Rattle.ng_call.proofs.Told.{found_is}
use Rattle.ng_forecast.specs.declared.ended.Forecast.{Forecast}
use Rattle.ng_forecast.specs.declared.ended.ForecastFault.{ForecastFault}
use Rattle.ng_forecast.specs.declared.ended.ForecastFault.TheVariants.{Usage, Script, Capture, TooBig, ReadFault, WriteFault, Moving, Restless, Wide, Undefined, Big, NoMemory}
use Rattle.ng_forecast.specs.Behaves.{IsForecastCall, IsQuiet, ReadsNamed}
use Rattle.ng_forecast.specs.Call.{ForecastInput, fault_status, forecast_task, text_write, world_in}
use Rattle.ng_forecast.specs.Ends.{ForecastEnds, handed, status_of}
use Rattle.ng_forecast.specs.Line.{file_name}
use Rattle.ng_forecast.specs.Steps.{IsRun, setting_in}
use Rattle.ng_forecast.proofs.Sorts.{AreElse, file_rose, none_checked, none_read}

-- A TASK

abbrev input_of : Found → List Event → ForecastInput
input_of found journal = record { found = found; journal = journal }

one_input : (a b : ForecastInput) → a.found ≡ b.found → a.journal ≡ b.journal → a ≡ b
one_input a b found journal =
    ap (λ (f : Found). input_of f a.journal) found ∙ ap (λ (j : List Event). input_of b.found j) journal

-- what was read is what the files tell, and there is one plain journal
told_input : (kinds : List Kind) (files : List ℕ → Contents) (words : ForecastWords) (a b : ForecastInput)
    → (forecast_task kinds).IsFound files words a → (forecast_task kinds).Tells files words b → a ≡ b
told_input kinds files words a b is told =
    let same : a.found ≡ b.found = found_is files (FromFiles words.script words.ports) a.found b.found is.0 told.0 in
    let run : IsRun (setting_in kinds words b.found) a.journal = subst (λ (f : Found). IsRun (setting_in kinds words f) a.journal) same is.1 in
    one_input a b same (plain_is_one (setting_in kinds words b.found) a.journal b.journal run told.1)

-- what is looked for has a status of its own
inside : AreElse (λ fault. is_outside (fault_status fault) ≡ true)
inside = record {
  big = λ source is. cc is;
  script = λ fault is. cc is;
  capture = λ port why is. cc is;
  moving = λ command is. cc is;
  restless = λ is. cc is;
  wide = λ packet is. cc is;
  undefined = λ packet is. cc is;
  heavy = λ packet is. cc is;
}

is_task : (kinds : List Kind) → IsTask (forecast_task kinds)
is_task kinds = record {
  one = told_input kinds;
  checked = λ words input. none_checked _ inside (world_in kinds words input.found input.journal) input.journal words input.found;
  read = λ words input. none_read _ (λ source differs. differs refl) (world_in kinds words input.found input.journal) input.journal words input.found;
  written = λ words input made. ((λ differs. differs refl), tt);
  usage = refl;
  memory = refl;
}

-- THE STATUS

unsaid_fault : {A : Type 0} (f g : A) → (None ≡ Some f) ⊎ (None ≡ Some g) → ⊥
unsaid_fault f g (inl is) = cc is
unsaid_fault f g (inr is) = cc is

status_told : (kinds : List Kind) (said : Option ForecastWords) (o : Outside) (status : ℕ) (made : Spread) (fault : Option ForecastFault)
    → EndsBy (forecast_task kinds) said o status made fault → status ≡ status_of fault
status_told kinds None o status made None e = absurd (unsaid_fault Usage NoMemory e.cause)
status_told kinds None o status made (Some fault) e = e.status_is
status_told kinds (Some words) o status made None e = e.status_is
status_told kinds (Some words) o status made (Some fault) e = e.status_is

-- WHAT IS WRITTEN

apart : (a b : ℕ) → (a == b) ≡ false → a ≢ b
apart a b differ = λ same. true≢false (sym (eq-eqb a b same) ∙ differ)

-- a fault that is neither that of a write nor of memory
quietly : (Quiet : Type 0) (fault : ForecastFault) → (fault_status fault ≢ 74 → fault_status fault ≢ 71 → Quiet)
    → (fault ≡ NoMemory → Quiet) → fault ≢ WriteFault → Quiet
quietly Quiet Usage refused memory written = refused (apart 64 74 refl) (apart 64 71 refl)
quietly Quiet (Script fault) refused memory written = refused (apart 65 74 refl) (apart 65 71 refl)
quietly Quiet (Capture port why) refused memory written = refused (apart 65 74 refl) (apart 65 71 refl)
quietly Quiet (TooBig source) refused memory written = refused (apart 65 74 refl) (apart 65 71 refl)
quietly Quiet (ReadFault source) refused memory written = refused (apart 66 74 refl) (apart 66 71 refl)
quietly Quiet WriteFault refused memory written = absurd (written refl)
quietly Quiet (Moving command) refused memory written = refused (apart 4 74 refl) (apart 4 71 refl)
quietly Quiet Restless refused memory written = refused (apart 4 74 refl) (apart 4 71 refl)
quietly Quiet (Wide packet) refused memory written = refused (apart 4 74 refl) (apart 4 71 refl)
quietly Quiet (Undefined packet) refused memory written = refused (apart 4 74 refl) (apart 4 71 refl)
quietly Quiet (Big packet) refused memory written = refused (apart 4 74 refl) (apart 4 71 refl)
quietly Quiet NoMemory refused memory written = memory refl

-- the files are as they were, however the call ends

stopped_keeps : (o : Outside) (words : ForecastWords) (made : Spread) (fault : ForecastFault)
    → StopsAt (StopsFor NoMemory o fault) (text_write words made ∷ []) o.old o.now → o.now.files ≡ o.old.files
stopped_keeps o words made fault (inl begun) = begun.1.1
stopped_keeps o words made fault (inr later) = absurd later.2

told_keeps : (o : Outside) (words : ForecastWords) (made : Spread) → WritesAll (text_write words made ∷ []) o.old o.now → o.now.files ≡ o.old.files
told_keeps o words made (next, whole, same) = same.files ∙ whole.1

ends_keep_files : (kinds : List Kind) (words : ForecastWords) (input : ForecastInput) (o : Outside) (made : Spread) (fault : Option ForecastFault)
    → Ends (call_of (forecast_task kinds) words input) o made fault → o.now.files ≡ o.old.files
ends_keep_files kinds words input o made None e = told_keeps o words made e.written
ends_keep_files kinds words input o made (Some fault) (inl e) = e.same.files
ends_keep_files kinds words input o made (Some fault) (inr (inl e)) = e.same.files
ends_keep_files kinds words input o made (Some fault) (inr (inr e)) = stopped_keeps o words made fault e.stops

files_stay : (kinds : List Kind) (said : Option ForecastWords) (o : Outside) (status : ℕ) (made : Spread) (fault : Option ForecastFault)
    → EndsBy (forecast_task kinds) said o status made fault → o.now.files ≡ o.old.files
files_stay kinds None o status made fault e = e.same.files
files_stay kinds (Some words) o status made fault e = ends_keep_files kinds words e.input o made fault e.ends

-- THE CALL

pub is_forecast_call : (kinds : List Kind) (said : Option ForecastWords) (o : Outside) (forecast : Forecast)
    → ForecastEnds kinds said o forecast.status forecast.bag forecast.fault → IsForecastCall kinds said o forecast
is_forecast_call kinds said o forecast e =
    let all : Behaves (forecast_task kinds) said o forecast.status e.made forecast.fault =
    behaves (forecast_task kinds) (is_task kinds) said (λ words input made is. (tt, tt)) o forecast.status e.made forecast.fault e.ends in
    let foretells : DoesAll (forecast_task kinds) said o forecast.bag forecast.fault = λ words input given well.
    let same : e.made ≡ forecast.bag = sym (e.bag_is ∙ ap (λ (f : Option ForecastFault). handed f e.made) well) in
    subst (λ (bag : Spread). IsDone (call_of (forecast_task kinds) words input) o bag) same (all.done words input given well) in
    let reads : ReadsNamed said o forecast.fault = λ source is.
    let r = all.reads (ReadFault source) is refl in
    subst (λ (s : Option ForecastWords). FileRose o (file_name source s)) (sym r.said_is)
    (file_rose o (world_in kinds r.words r.input.found r.input.journal) r.input.journal r.words r.input.found source r.fails) in
    let quiet : IsQuiet o forecast.bag forecast.fault = λ due is. (
      e.bag_is ∙ ap (λ (f : Option ForecastFault). handed f e.made) is,
      quietly (Same o.old o.now) due (λ writing memory. (all.quiet due is writing memory).1)
          (λ memory. e.unwritten (is ∙ ap (λ (f : ForecastFault). Some f) memory)),
    ) in
    record {
      made = e.made;
      behaves = all;
      bag_is = e.bag_is;
      status_is = status_told kinds said o forecast.status e.made forecast.fault e.ends;
      foretells = foretells;
      reads = reads;
      quiet = quiet;
      files = files_stay kinds said o forecast.status e.made forecast.fault e.ends;
    }
