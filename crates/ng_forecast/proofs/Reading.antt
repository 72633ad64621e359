-- The script, no command between packets, and the captures behind them.
use Rattle.std.proofs.Common.{◌≡◌, inl, inr, ◌∙◌, ℕ, ◌≤◌, suc, List, [], ◌∷◌, ◌++◌, length, refl, sym, ap, subst}
use Rattle.std.specs.Prelude.{option_map}
use Rattle.std.specs.declared.option.Option.{Option}
use Rattle.std.specs.declared.option.Option.TheVariants.{None, Some}
use Rattle.std.proofs.lemmas.List.{length-map}
use Rattle.ng_machine.specs.declared.command.Command.{Command}
use Rattle.ng_outside.specs.Contents.{Contents}
use Rattle.ng_pcap.specs.declared.capture.Capture.{Capture as ReadCapture}
use Rattle.ngctl_script.specs.Script.{commands_of}
use Rattle.ngctl_script.specs.feed.Inputs.{Timed}
use Rattle.ng_args.specs.declared.port.PortWord.{PortWord}
use Rattle.ng_args.specs.declared.words.ForecastWords.{ForecastWords}
use Rattle.ng_call.specs.ending.Outside.{Outside}
use Rattle.ng_call.specs.ending.Steps.{Step, Checks, first_fault, Refuses}
use Rattle.ng_call.proofs.ending.Lists.{first_behind, refuses_behind, refuses_in_front, refuses_within}
use Rattle.ng_call.proofs.ending.Counts.{rose_since}
use Rattle.ng_call.specs.declared.ended.Fault.{Fault}
use Rattle.ng_call.specs.Call.{names as run_names}
use Rattle.ng_call.specs.Found.{Found, IsRead, AreRead, capture_in, captures_in}
use Rattle.ng_call.specs.Parts.{AreAllWritable, of_files, Stops as RunStops, ScriptPasses, PortsPass, PortsStop}
use Rattle.ng_call.specs.Steps.{script_steps, capture_steps}
use Rattle.ng_call.proofs.Files.{told_or_empty, told_read}
use Rattle.ng_call.proofs.Ports.{fill, fill_read}
use Rattle.ng_forecast.specs.declared.ended.ForecastFault.{ForecastFault}
use Rattle.ng_forecast.specs.declared.ended.ForecastFault.TheVariants.{Moving, NoMemory}
use Rattle.ng_forecast.specs.Moving.{moving}
use Rattle.ng_forecast.specs.Steps.{names, read_steps}
use Rattle.ng_forecast.specs.Parts.{IsReadIn, ReadStops, Stops, fault_of}
use Rattle.ng_forecast.proofs.Converted.{script_fine, captures_fine, script_refuses, captures_refuse}

abbrev found_in : List ℕ → List (Option (List ℕ)) → Found
found_in script captures = record { script = script; captures = captures }

abbrev check : List ℕ → List (Step ForecastFault)
check bytes = Checks (option_map (λ command. Moving command) (moving (commands_of bytes))) ∷ []

-- memory ran out, or a fault of a run's reading is one of a forecast's
converted : (fault : Fault) (o : Outside) (steps : List (Step Fault)) (more : List (Step ForecastFault))
    → (Refuses o steps fault → Refuses o more (fault_of fault)) → RunStops o steps fault → Stops o more (fault_of fault)
converted fault o steps more f (inl memory) = inl (ap fault_of memory)
converted fault o steps more f (inr r) = inr (f r)

pub memory_stops : (o : Outside) (words : ForecastWords) → ReadStops o words NoMemory
memory_stops o words = (
  found_in (told_or_empty (o.old.files words.script)) (fill o.old.files words.ports),
  (told_read (o.old.files words.script), fill_read o.old.files words.ports),
  inl refl,
)

pub script_stops : (o : Outside) (words : ForecastWords) (fault : Fault)
    → (bytes : List ℕ) × IsRead (o.old.files words.script) bytes × RunStops o (script_steps run_names words.script bytes) fault
    → ReadStops o words (fault_of fault)
script_stops o words fault (bytes, is, stops) = (
  found_in bytes (fill o.old.files words.ports),
  (is, fill_read o.old.files words.ports),
  converted fault o (script_steps run_names words.script bytes) (read_steps words (found_in bytes (fill o.old.files words.ports)))
      (λ r. refuses_in_front o (script_steps names words.script bytes ++ check bytes) (capture_steps names 0 0 0 words.ports (fill o.old.files words.ports)) (fault_of fault)
      (refuses_in_front o (script_steps names words.script bytes) (check bytes) (fault_of fault) (script_refuses o words.script bytes fault r))) stops,
)

module _ (old mid last : List ℕ → Contents) (before middle after : List ℕ → ℕ) (words : ForecastWords) (timed : Timed) (commands : List Command)
    (same : mid ≡ old) (counts : (other : List ℕ) → before other ≤ middle other) (passed : ScriptPasses old words.script timed commands) where
  pub moves : (command : ℕ) → moving timed ≡ Some command → ReadStops (of_files old last before after) words (Moving command)
  moves command is = (
    found_in passed.bytes (fill old words.ports),
    (passed.read, fill_read old words.ports),
    inr (refuses_in_front (of_files old last before after) (script_steps names words.script passed.bytes ++ check passed.bytes)
        (capture_steps names 0 0 0 words.ports (fill old words.ports)) (Moving command)
        (refuses_behind (of_files old last before after) (script_steps names words.script passed.bytes) (check passed.bytes) (Moving command)
        (script_fine old words.script passed.bytes passed.fine)
        (subst (λ (o : Option ℕ). Refuses (of_files old last before after) (Checks (option_map (λ command. Moving command) o) ∷ []) (Moving command))
        (sym (ap moving (sym passed.script_is) ∙ is)) refl))),
  )

  check_fine : moving timed ≡ None → first_fault old (script_steps names words.script passed.bytes ++ check passed.bytes) ≡ None
  check_fine none =
      first_behind old (script_steps names words.script passed.bytes) (check passed.bytes) (script_fine old words.script passed.bytes passed.fine)
      ∙ ap (λ (o : Option ℕ). first_fault old (Checks (option_map (λ command. Moving command) o) ∷ [])) (ap moving (sym passed.script_is) ∙ none)

  behind : (captures : List (Option (List ℕ))) (fault : ForecastFault) → moving timed ≡ None → Stops (of_files mid last middle after) (capture_steps names 0 0 0 words.ports captures) fault
      → Stops (of_files old last before after) (read_steps words (found_in passed.bytes captures)) fault
  behind captures fault none (inl memory) = inl memory
  behind captures fault none (inr refuses) =
      inr (refuses_behind (of_files old last before after) (script_steps names words.script passed.bytes ++ check passed.bytes) (capture_steps names 0 0 0 words.ports captures) fault
      (check_fine none)
      (refuses_within (of_files mid last middle after) (of_files old last before after) same
      (λ name rose. rose_since (before name) (middle name) (after name) (counts name) rose)
      (capture_steps names 0 0 0 words.ports captures) fault refuses))

  pub ports_stop : (fault : Fault) → moving timed ≡ None → PortsStop (of_files mid last middle after) 0 0 0 words.ports fault
      → ReadStops (of_files old last before after) words (fault_of fault)
  ports_stop fault none (captures, read, stops) = (
    found_in passed.bytes captures,
    (passed.read, subst (λ (f : List ℕ → Contents). AreRead f words.ports captures) same read),
    behind captures (fault_of fault) none
        (converted fault (of_files mid last middle after) (capture_steps run_names 0 0 0 words.ports captures) (capture_steps names 0 0 0 words.ports captures)
        (captures_refuse (of_files mid last middle after) words.ports captures fault) stops),
  )

  pub is_read_in : (none captures : List ReadCapture) → none ≡ [] → moving timed ≡ None → PortsPass mid 0 0 0 words.ports none captures → IsReadIn old words timed captures
  is_read_in none captures empty still passes =
      let all : captures ≡ captures_in passes.found = passes.captures ∙ ap (λ (l : List ReadCapture). l ++ captures_in passes.found) empty in
      record {
        found = found_in passed.bytes passes.found;
        is_found = (passed.read, subst (λ (f : List ℕ → Contents). AreRead f words.ports passes.found) same passes.read);
        fine =
            first_behind old (script_steps names words.script passed.bytes ++ check passed.bytes) (capture_steps names 0 0 0 words.ports passes.found) (check_fine still)
            ∙ captures_fine old words.ports passes.found (subst (λ (f : List ℕ → Contents). first_fault f (capture_steps run_names 0 0 0 words.ports passes.found) ≡ None) same passes.fine);
        script_is = passed.script_is;
        captures_are = all;
        writable = subst AreAllWritable (sym all) passes.writable;
      }

-- as many captures are read as there are ports
read_length : (files : List ℕ → Contents) (ports : List PortWord) (captures : List (Option (List ℕ))) → AreRead files ports captures → length captures ≡ length ports
read_length files [] [] read = refl
read_length files [] (x ∷ captures) read = absurd read
read_length files (port ∷ ports) [] read = absurd read
read_length files (port ∷ ports) (None ∷ captures) read = ap suc (read_length files ports captures read.1)
read_length files (port ∷ ports) (Some bytes ∷ captures) read = ap suc (read_length files ports captures read.2)

pub as_many : (files : List ℕ → Contents) (words : ForecastWords) (script : Timed) (captures : List ReadCapture) → IsReadIn files words script captures → length captures ≡ length words.ports
as_many files words script captures r =
    ap (λ (l : List ReadCapture). length l) r.captures_are ∙ length-map r.found.captures capture_in ∙ read_length files words.ports r.found.captures r.is_found.1
