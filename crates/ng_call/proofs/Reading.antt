-- The script, and the captures behind it.
use Rattle.std.proofs.Common.{◌≡◌, inl, inr, ◌∙◌, ℕ, ◌≤◌, List, [], ◌++◌, map, Option, Some, None, refl, ap, subst}
use Rattle.ng_machine.specs.declared.command.Command.{Command}
use Rattle.ng_outside.specs.Contents.{Contents}
use Rattle.ng_pcap.specs.declared.capture.Capture.{Capture}
use Rattle.ngctl_script.specs.Script.{commands_of}
use Rattle.ngctl_script.specs.declared.when.When.{When}
use Rattle.ngctl_script.specs.make.Made.{made_captures, made_script}
use Rattle.ng_args.specs.declared.port.PortWord.{PortWord}
use Rattle.ng_args.specs.declared.words.Source.{Source}
use Rattle.ng_args.specs.declared.words.Source.TheVariants.{FromFiles, Made}
use Rattle.ng_call.specs.ending.Outside.{Outside}
use Rattle.ng_call.specs.ending.Steps.{first_fault}
use Rattle.ng_call.proofs.ending.Lists.{first_behind, refuses_behind, refuses_within}
use Rattle.ng_call.proofs.ending.Counts.{rose_since}
use Rattle.ng_call.specs.declared.ended.Fault.{Fault}
use Rattle.ng_call.specs.declared.ended.Fault.TheVariants.{NoMemory}
use Rattle.ng_call.specs.Found.{Found, IsRead, AreRead, capture_in, captures_in}
use Rattle.ng_call.specs.Steps.{script_steps, capture_steps}
use Rattle.ng_call.specs.Call.{names, made}
use Rattle.ng_call.specs.Parts.{AreAllWritable, of_files, Stops, ScriptPasses, PortsPass, PortsStop, AllPass, AllStop}
use Rattle.ng_call.proofs.Files.{told_or_empty, told_read}
use Rattle.ng_call.proofs.Ports.{fill, fill_read, stops_in_front}

abbrev found_in : List ℕ → List (Option (List ℕ)) → Found
found_in script captures = record { script = script; captures = captures }

pub memory_all : (o : Outside) (source : Source) → AllStop o source NoMemory
memory_all o (FromFiles script ports) = (
  found_in (told_or_empty (o.old.files script)) (fill o.old.files ports),
  (told_read (o.old.files script), fill_read o.old.files ports),
  inl refl,
)
memory_all o (Made packets) = (made packets, refl, inl refl)

pub script_all : (o : Outside) (script : List ℕ) (ports : List PortWord) (fault : Fault)
    → (bytes : List ℕ) × IsRead (o.old.files script) bytes × Stops o (script_steps names script bytes) fault
    → AllStop o (FromFiles script ports) fault
script_all o script ports fault (bytes, is, stops) = (
  found_in bytes (fill o.old.files ports),
  (is, fill_read o.old.files ports),
  stops_in_front o (script_steps names script bytes) (capture_steps names 0 0 0 ports (fill o.old.files ports)) fault stops,
)

module _ (old mid last : List ℕ → Contents) (before middle after : List ℕ → ℕ) (script : List ℕ) (ports : List PortWord)
    (timed : List (When × Command)) (commands : List Command)
    (same : mid ≡ old) (counts : (other : List ℕ) → before other ≤ middle other) (passed : ScriptPasses old script timed commands) where
  behind : (captures : List (Option (List ℕ))) (fault : Fault) → Stops (of_files mid last middle after) (capture_steps names 0 0 0 ports captures) fault
      → Stops (of_files old last before after) (script_steps names script passed.bytes ++ capture_steps names 0 0 0 ports captures) fault
  behind captures fault (inl memory) = inl memory
  behind captures fault (inr refuses) =
      inr (refuses_behind (of_files old last before after) (script_steps names script passed.bytes) (capture_steps names 0 0 0 ports captures) fault passed.fine
      (refuses_within (of_files mid last middle after) (of_files old last before after) same
      (λ name rose. rose_since (before name) (middle name) (after name) (counts name) rose)
      (capture_steps names 0 0 0 ports captures) fault refuses))

  pub ports_all : (fault : Fault) → PortsStop (of_files mid last middle after) 0 0 0 ports fault
      → AllStop (of_files old last before after) (FromFiles script ports) fault
  ports_all fault (captures, read, stops) = (
    found_in passed.bytes captures,
    (passed.read, subst (λ (f : List ℕ → Contents). AreRead f ports captures) same read),
    behind captures fault stops,
  )

  pub passes_all : (none captures : List Capture) → none ≡ [] → PortsPass mid 0 0 0 ports none captures
      → AllPass old (FromFiles script ports) timed commands captures
  passes_all none captures empty passes = record {
    found = found_in passed.bytes passes.found;
    is_found = (passed.read, subst (λ (f : List ℕ → Contents). AreRead f ports passes.found) same passes.read);
    fine =
        first_behind old (script_steps names script passed.bytes) (capture_steps names 0 0 0 ports passes.found) passed.fine
        ∙ subst (λ (f : List ℕ → Contents). first_fault f (capture_steps names 0 0 0 ports passes.found) ≡ None) same passes.fine;
    script_is = passed.script_is;
    commands_are = passed.commands_are;
    captures_are = passes.captures ∙ ap (λ (l : List Capture). l ++ captures_in passes.found) empty;
    writable = passes.writable;
  }

-- a script and captures that are made
pub made_pass : (n : ℕ) (script : List (When × Command)) (commands : List Command) (captures : List Capture)
    → script ≡ commands_of made_script → commands ≡ map (λ timed. timed.1) (commands_of made_script)
    → captures ≡ map (λ bytes. capture_in (Some bytes)) (made_captures n) → AreAllWritable captures
    → (files : List ℕ → Contents) → AllPass files (Made n) script commands captures
made_pass n script commands captures script_is commands_are captures_are writable files = record {
  found = made n;
  is_found = refl;
  fine = refl;
  script_is = script_is;
  commands_are = commands_are;
  captures_are = captures_are;
  writable = subst AreAllWritable captures_are writable;
}
