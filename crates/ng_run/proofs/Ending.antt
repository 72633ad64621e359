-- How a call ends that has read.
use Rattle.std.proofs.Common.{◌≡◌, ◌≤◌, ◌⊎◌, ◌∙◌, inl, inr, ℕ, if◌then◌else◌, List, [], ◌∷◌, ◌++◌, length, map, Option, Some, None, refl, sym, ap, subst}
use Rattle.std.specs.List.{list_any}
use Rattle.ng_base.specs.declared.event.Event.{Event}
use Rattle.ng_base.specs.declared.kind.Kind.{Kind}
use Rattle.ng_machine.specs.declared.command.Command.{Command}
use Rattle.ng_machine.specs.declared.input.Input.{Input}
use Rattle.ng_machine.specs.Laws.{IsJournal, world_after}
use Rattle.ng_machine.specs.World.{World}
use Rattle.ng_pcap.specs.declared.capture.Capture.{Capture}
use Rattle.ngctl_script.specs.Script.{commands_of}
use Rattle.ngctl_print.specs.whole.Text.{world_text}
use Rattle.ng_args.specs.Run.{ports_from}
use Rattle.ng_args.specs.declared.port.PortWord.{PortWord}
use Rattle.ng_args.specs.declared.words.Words.{Words}
use Rattle.ng_call.specs.ending.Outside.{Outside, Same}
use Rattle.ng_call.specs.ending.Steps.{first_fault, Refuses}
use Rattle.ng_call.specs.ending.Ends.{Ends}
use Rattle.ng_call.specs.ending.Task.{EndsBy, EndsWith, call_of}
use Rattle.ng_call.proofs.ending.Counts.{rose_since}
use Rattle.ng_call.proofs.ending.Lists.{refuses_within}
use Rattle.ng_outside.specs.Contents.{Contents}
use Rattle.ng_call.specs.ending.Writes.{Write, WritesAll, StopsAt, StopsFor}
use Rattle.ng_call.specs.declared.ended.Fault.{Fault}
use Rattle.ng_call.specs.declared.ended.Fault.TheVariants.{NoMemory, Usage}
use Rattle.ng_call.specs.Found.{Found, captures_in}
use Rattle.ng_call.specs.Run.{setting_of, setting_in, inputs_in, world_in, IsRun}
use Rattle.ng_call.specs.Writes.{is_stop, is_error, shown_by, text_write, out_writes, journal_writes, writes_in}
use Rattle.ng_call.specs.Parts.{of_files, storing, outside, counting, Stops, AllStop}
use Rattle.ng_call.proofs.Reading.{memory_all}
use Rattle.ng_run.proofs.Writing.{since}
use Rattle.ng_call.specs.Call.{IsFound, fault_status, run_task, steps_in}

module _ (kinds : List Kind) (w : Words) (o : Outside) (found : Found) (is : IsFound o.old.files w.source found) where
  -- memory ran out before the run
  pub memory_refuses : Same o.old o.now → (status : ℕ) (journal : List Event) (fault : Option Fault) → status ≡ 71 → journal ≡ []
      → fault ≡ Some NoMemory → EndsWith (run_task kinds) w o status journal fault
  memory_refuses same status journal fault a b c = rw (a, b, c) (record {
    input = found;
    is_found = is;
    ends = inl (record { nothing = refl; same = same; cause = inl refl });
    status_is = refl;
  })

  module _ (fine : first_fault o.old.files (steps_in w.source found) ≡ None) (inputs : List Input) (inputs_are : inputs ≡ inputs_in found) where
    -- memory ran out in the run
    pub memory_cuts : Same o.old o.now → (events journal : List Event) → IsJournal (setting_of kinds w inputs) events → (status : ℕ) (fault : Option Fault) → status ≡ 71 → journal ≡ events
        → fault ≡ Some NoMemory → EndsWith (run_task kinds) w o status journal fault
    memory_cuts same events journal orderly status fault a b c = rw (a, b, c) (record {
      input = found;
      is_found = is;
      ends = inr (inl (record {
        passed = fine;
        part = subst (λ (l : List Input). IsJournal (setting_of kinds w l) events) inputs_are orderly;
        same = same;
        cause = refl;
      }));
      status_is = refl;
    })

    module _ (events journal : List Event) (world : World) (ran : IsRun (setting_of kinds w inputs) w.workers events)
        (world_is : world ≡ world_after (setting_of kinds w inputs) events) (e : journal ≡ events)
        (commands : List Command) (commands_are : commands ≡ map (λ timed. timed.1) (commands_of found.script))
        (ports : List PortWord) (ports_are : ports ≡ ports_from w.source)
        (cuts : List (Option ℕ)) (cuts_are : cuts ≡ map (λ (capture : Capture). capture.cut) (captures_in found.captures))
        (of : ℕ) (of_is : of ≡ length inputs) where
      has_run : IsRun (setting_in kinds w found) w.workers journal
      has_run =
          subst (λ (l : List Event). IsRun (setting_in kinds w found) w.workers l) (sym e)
          (subst (λ (l : List Input). IsRun (setting_of kinds w l) w.workers events) inputs_are ran)

      world_found : world ≡ world_in kinds w found journal
      world_found =
          world_is
          ∙ ap (λ (l : List Input). world_after (setting_of kinds w l) events) inputs_are
          ∙ ap (λ (l : List Event). world_in kinds w found l) (sym e)

      writes_are : text_write (world_text commands (shown_by ports cuts) of world (list_any is_stop events)) ∷ (out_writes 0 ports world.ports ++ journal_writes w.journal events)
          ≡ writes_in kinds w found journal
      writes_are = rw (commands_are, ports_are, cuts_are, of_is ∙ ap length inputs_are, world_found, sym e) refl

      pub write_stops : (status : ℕ) (fault : Fault) → status ≡ fault_status fault
          → StopsAt (StopsFor NoMemory o fault)
          (text_write (world_text commands (shown_by ports cuts) of world (list_any is_stop events)) ∷ (out_writes 0 ports world.ports ++ journal_writes w.journal events)) o.old o.now
          → EndsWith (run_task kinds) w o status journal (Some fault)
      write_stops status fault status_is stops = record {
        input = found;
        is_found = is;
        ends = inr (inr (record {
          passed = fine;
          ran = has_run;
          stops = subst (λ (ws : List (Write Fault)). StopsAt (StopsFor NoMemory o fault) ws o.old o.now) writes_are stops;
        }));
        status_is = status_is;
      }

      pub all_done : (status : ℕ) → status ≡ (if list_any is_stop events then 2 else if list_any is_error world.told then 1 else 0)
          → WritesAll
          (text_write (world_text commands (shown_by ports cuts) of world (list_any is_stop events)) ∷ (out_writes 0 ports world.ports ++ journal_writes w.journal events)) o.old o.now
          → EndsWith (run_task kinds) w o status journal None
      all_done status status_is all = record {
        input = found;
        is_found = is;
        ends = record {
          passed = fine;
          ran = has_run;
          written = subst (λ (ws : List (Write Fault)). WritesAll ws o.old o.now) writes_are all;
        };
        status_is = status_is ∙ (rw (world_found, sym e) refl);
      }

-- The same since before the files were read

module _ (kinds : List Kind) (w : Words) (sink next : Option (List ℕ)) (last : List ℕ → Contents) (sb sa : ℕ)
    (before middle after : List ℕ → ℕ) (counts : (other : List ℕ) → before other ≤ middle other) where
  module _ (old : List ℕ → Contents) (found : Found) (journal : List Event) where
    caused : (fault : Fault)
        → (fault ≡ NoMemory) ⊎ Refuses (outside (storing sink old) (storing next last) (counting sb middle) (counting sa after)) (steps_in w.source found) fault
        → (fault ≡ NoMemory) ⊎ Refuses (outside (storing sink old) (storing next last) (counting sb before) (counting sa after)) (steps_in w.source found) fault
    caused fault (inl memory) = inl memory
    caused fault (inr refuses) =
        inr (refuses_within (outside (storing sink old) (storing next last) (counting sb middle) (counting sa after))
        (outside (storing sink old) (storing next last) (counting sb before) (counting sa after)) refl
        (λ name rose. rose_since (before name) (middle name) (after name) (counts name) rose) (steps_in w.source found) fault refuses)

    ends_more : (fault : Option Fault)
        → Ends (call_of (run_task kinds) w found) (outside (storing sink old) (storing next last) (counting sb middle) (counting sa after)) journal fault
        → Ends (call_of (run_task kinds) w found) (outside (storing sink old) (storing next last) (counting sb before) (counting sa after)) journal fault
    ends_more None e = record { passed = e.passed; ran = e.ran; written = e.written }
    ends_more (Some fault) (inl e) = inl (record { nothing = e.nothing; same = e.same; cause = caused fault e.cause })
    ends_more (Some fault) (inr (inl e)) = inr (inl (record { passed = e.passed; part = e.part; same = e.same; cause = e.cause }))
    ends_more (Some fault) (inr (inr e)) =
        inr (inr (record {
          passed = e.passed;
          ran = e.ran;
          stops = since (writes_in kinds w found journal) sink next old last before middle after sb sa fault counts e.stops;
        }))

  pub ends_since : (old mid : List ℕ → Contents) (status : ℕ) (journal : List Event) (fault : Option Fault) → mid ≡ old
      → EndsWith (run_task kinds) w (outside (storing sink mid) (storing next last) (counting sb middle) (counting sa after)) status journal fault
      → EndsWith (run_task kinds) w (outside (storing sink old) (storing next last) (counting sb before) (counting sa after)) status journal fault
  ends_since old mid status journal fault same e =
      let at : EndsWith (run_task kinds) w (outside (storing sink old) (storing next last) (counting sb middle) (counting sa after)) status journal fault =
      subst (λ (f : List ℕ → Contents). EndsWith (run_task kinds) w (outside (storing sink f) (storing next last) (counting sb middle) (counting sa after)) status journal fault) same e in
      record { input = at.input; is_found = at.is_found; ends = ends_more old at.input journal fault at.ends; status_is = at.status_is }

-- a read that stopped
pub read_stops : (kinds : List Kind) (w : Words) (sink : Option (List ℕ)) (old last : List ℕ → Contents) (before after : List ℕ → ℕ) (sb : ℕ)
    (status : ℕ) (journal : List Event) (fault : Option Fault) (found : Fault) → AllStop (of_files old last before after) w.source found
    → last ≡ old → status ≡ fault_status found → journal ≡ [] → fault ≡ Some found
    → EndsWith (run_task kinds) w (outside (storing sink old) (storing sink last) (counting sb before) (counting sb after)) status journal fault
read_stops kinds w sink old last before after sb status journal fault found (read, is_found, stops) same a b c =
    rw (b, c) (record {
      input = read;
      is_found = is_found;
      ends = inl (record { nothing = refl; same = record { sink = refl; files = same }; cause = placed stops });
      status_is = a;
    })
  where
    placed : Stops (of_files old last before after) (steps_in w.source read) found
        → (found ≡ NoMemory) ⊎ Refuses (outside (storing sink old) (storing sink last) (counting sb before) (counting sb after)) (steps_in w.source read) found
    placed (inl memory) = inl memory
    placed (inr refuses) =
        inr (refuses_within (of_files old last before after) (outside (storing sink old) (storing sink last) (counting sb before) (counting sb after)) refl
        (λ name rose. rose) (steps_in w.source read) found refuses)

-- memory ran out before anything was read
pub memory_ends : (kinds : List Kind) (words : Option Words) (o : Outside) → Same o.old o.now → EndsBy (run_task kinds) words o 71 [] (Some NoMemory)
memory_ends kinds None o same = record { nothing = refl; same = same; cause = inr refl; status_is = refl }
memory_ends kinds (Some words) o same =
    let all = memory_all o words.source in memory_refuses kinds words o all.0 all.1 same 71 [] (Some NoMemory) refl refl refl

-- words that are not in form
pub usage_ends : (kinds : List Kind) (o : Outside) → Same o.old o.now → EndsBy (run_task kinds) None o 64 [] (Some Usage)
usage_ends kinds o same = record { nothing = refl; same = same; cause = inl refl; status_is = refl }
