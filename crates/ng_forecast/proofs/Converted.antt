-- What is read of a script and of captures is read as a run reads it, with the faults of a forecast.
use Rattle.std.proofs.Common.{◌≡◌, ◌∙◌, inl, inr, ℕ, ◌+◌, Bool, true, false, nat_lt, if◌then◌else◌, List, [], ◌∷◌, ◌++◌, length, refl, sym, ap, subst}
use Rattle.std.specs.Prelude.{option_map}
use Rattle.std.specs.declared.option.Option.{Option}
use Rattle.std.specs.declared.option.Option.TheVariants.{None, Some}
use Rattle.ng_outside.specs.Contents.{Contents, NotTold, NoFile, Holds}
use Rattle.ng_pcap.specs.Reading.{capture_of}
use Rattle.ngctl_script.specs.Script.{script_fault}
use Rattle.ng_args.specs.declared.port.PortWord.{PortWord}
use Rattle.ng_call.specs.ending.Outside.{Outside}
use Rattle.ng_call.specs.ending.Steps.{Step, Reads, Checks, unless_missing, first_fault, Refuses}
use Rattle.ng_call.specs.declared.ended.Fault.{Fault}
use Rattle.ng_call.specs.Call.{names as run_names}
use Rattle.ng_call.specs.Steps.{over, fault_in, most_bytes, most_packets, most_script, packets_in, port_steps, script_steps, capture_steps}
use Rattle.ng_forecast.specs.declared.ended.ForecastFault.{ForecastFault}
use Rattle.ng_forecast.specs.Parts.{fault_of}
use Rattle.ng_forecast.specs.Steps.{names}

-- a step with another fault
abbrev pub with_fault : {F G : Type 0} → (F → G) → Step F → Step G
with_fault f (Reads name failed) = Reads name (f failed)
with_fault f (Checks found) = Checks (option_map f found)

abbrev pub with_faults : {F G : Type 0} → (F → G) → List (Step F) → List (Step G)
with_faults f [] = []
with_faults f (step ∷ steps) = with_fault f step ∷ with_faults f steps

faults_behind : {F G : Type 0} (f : F → G) (a b : List (Step F)) → with_faults f (a ++ b) ≡ with_faults f a ++ with_faults f b
faults_behind f [] b = refl
faults_behind f (step ∷ a) b = ap (λ l. with_fault f step ∷ l) (faults_behind f a b)

missing_mapped : {F G : Type 0} (f : F → G) (contents : Contents) (failed : F) (later : Option F) → unless_missing contents (f failed) (option_map f later) ≡ option_map f (unless_missing contents failed later)
missing_mapped f NotTold failed later = refl
missing_mapped f NoFile failed later = refl
missing_mapped f (Holds bytes) failed later = refl

first_mapped : {F G : Type 0} (f : F → G) (files : List ℕ → Contents) (steps : List (Step F)) → first_fault files (with_faults f steps) ≡ option_map f (first_fault files steps)
first_mapped f files [] = refl
first_mapped f files (Reads name failed ∷ steps) =
    ap (unless_missing (files name) (f failed)) (first_mapped f files steps) ∙ missing_mapped f (files name) failed (first_fault files steps)
first_mapped f files (Checks None ∷ steps) = first_mapped f files steps
first_mapped f files (Checks (Some found) ∷ steps) = refl

refuses_mapped : {F G : Type 0} (f : F → G) (o : Outside) (steps : List (Step F)) (fault : F) → Refuses o steps fault → Refuses o (with_faults f steps) (f fault)
refuses_mapped f o [] fault r = r
refuses_mapped f o (Reads name failed ∷ steps) fault (inl (is, rose)) = inl (ap f is, rose)
refuses_mapped f o (Reads name failed ∷ steps) fault (inr (there, r)) = inr (there, refuses_mapped f o steps fault r)
refuses_mapped f o (Checks None ∷ steps) fault r = refuses_mapped f o steps fault r
refuses_mapped f o (Checks (Some found) ∷ steps) fault r = ap f r

over_mapped : {F G : Type 0} (f : F → G) (fault : F) (test : Bool) → option_map f (if test then Some fault else None) ≡ (if test then Some (f fault) else None)
over_mapped f fault true = refl
over_mapped f fault false = refl

twice : {A B C : Type 0} (f : B → C) (g : A → B) (o : Option A) → option_map f (option_map g o) ≡ option_map (λ x. f (g x)) o
twice f g None = refl
twice f g (Some x) = refl

script_converted : (file bytes : List ℕ) → with_faults fault_of (script_steps run_names file bytes) ≡ script_steps names file bytes
script_converted file bytes =
    ap (λ (x : Option ForecastFault). Reads file names.unreadable_script ∷ Checks x ∷ Checks (option_map fault_of (option_map run_names.wrong_script (script_fault bytes))) ∷ [])
    (over_mapped fault_of run_names.big_script (nat_lt most_script (length bytes)))
    ∙ ap (λ (x : Option ForecastFault). Reads file names.unreadable_script ∷ Checks (over most_script (length bytes) names.big_script) ∷ Checks x ∷ [])
    (twice fault_of run_names.wrong_script (script_fault bytes))

port_converted : (p bytes packets : ℕ) (file held : List ℕ) → with_faults fault_of (port_steps run_names p bytes packets file held) ≡ port_steps names p bytes packets file held
port_converted p bytes packets file held =
    ap (λ (x : Option ForecastFault). Reads file (names.unreadable_capture p) ∷ Checks x
    ∷ Checks (option_map fault_of (option_map (run_names.wrong_capture p) (fault_in (capture_of held))))
    ∷ Checks (option_map fault_of (over most_packets (packets + packets_in held) (run_names.big_capture p))) ∷ [])
    (over_mapped fault_of (run_names.big_capture p) (nat_lt most_bytes (bytes + length held)))
    ∙ ap (λ (x : Option ForecastFault). Reads file (names.unreadable_capture p) ∷ Checks (over most_bytes (bytes + length held) (names.big_capture p)) ∷ Checks x
    ∷ Checks (option_map fault_of (over most_packets (packets + packets_in held) (run_names.big_capture p))) ∷ [])
    (twice fault_of (run_names.wrong_capture p) (fault_in (capture_of held)))
    ∙ ap (λ (x : Option ForecastFault). Reads file (names.unreadable_capture p) ∷ Checks (over most_bytes (bytes + length held) (names.big_capture p))
    ∷ Checks (option_map (names.wrong_capture p) (fault_in (capture_of held))) ∷ Checks x ∷ [])
    (over_mapped fault_of (run_names.big_capture p) (nat_lt most_packets (packets + packets_in held)))

captures_converted : (p bytes packets : ℕ) (ports : List PortWord) (captures : List (Option (List ℕ)))
    → with_faults fault_of (capture_steps run_names p bytes packets ports captures) ≡ capture_steps names p bytes packets ports captures
captures_converted p bytes packets [] captures = refl
captures_converted p bytes packets (port ∷ ports) [] = refl
captures_converted p bytes packets (port ∷ ports) (None ∷ captures) = captures_converted (p + 1) bytes packets ports captures
captures_converted p bytes packets (port ∷ ports) (Some held ∷ captures) =
    faults_behind fault_of (port_steps run_names p bytes packets port.in_file held) (capture_steps run_names (p + 1) (bytes + length held) (packets + packets_in held) ports captures)
    ∙ ap (λ (l : List (Step ForecastFault)). l ++ with_faults fault_of (capture_steps run_names (p + 1) (bytes + length held) (packets + packets_in held) ports captures))
    (port_converted p bytes packets port.in_file held)
    ∙ ap (λ (l : List (Step ForecastFault)). port_steps names p bytes packets port.in_file held ++ l)
    (captures_converted (p + 1) (bytes + length held) (packets + packets_in held) ports captures)

fine_converted : (files : List ℕ → Contents) (steps : List (Step Fault)) (converted : List (Step ForecastFault)) → with_faults fault_of steps ≡ converted
    → first_fault files steps ≡ None → first_fault files converted ≡ None
fine_converted files steps converted is fine = ap (first_fault files) (sym is) ∙ first_mapped fault_of files steps ∙ ap (option_map fault_of) fine

refuses_converted : (o : Outside) (steps : List (Step Fault)) (converted : List (Step ForecastFault)) (fault : Fault) → with_faults fault_of steps ≡ converted
    → Refuses o steps fault → Refuses o converted (fault_of fault)
refuses_converted o steps converted fault is r = subst (λ (l : List (Step ForecastFault)). Refuses o l (fault_of fault)) is (refuses_mapped fault_of o steps fault r)

pub script_fine : (files : List ℕ → Contents) (file bytes : List ℕ) → first_fault files (script_steps run_names file bytes) ≡ None → first_fault files (script_steps names file bytes) ≡ None
script_fine files file bytes fine = fine_converted files (script_steps run_names file bytes) (script_steps names file bytes) (script_converted file bytes) fine

pub captures_fine : (files : List ℕ → Contents) (ports : List PortWord) (captures : List (Option (List ℕ)))
    → first_fault files (capture_steps run_names 0 0 0 ports captures) ≡ None → first_fault files (capture_steps names 0 0 0 ports captures) ≡ None
captures_fine files ports captures fine =
    fine_converted files (capture_steps run_names 0 0 0 ports captures) (capture_steps names 0 0 0 ports captures) (captures_converted 0 0 0 ports captures) fine

pub script_refuses : (o : Outside) (file bytes : List ℕ) (fault : Fault) → Refuses o (script_steps run_names file bytes) fault → Refuses o (script_steps names file bytes) (fault_of fault)
script_refuses o file bytes fault r = refuses_converted o (script_steps run_names file bytes) (script_steps names file bytes) fault (script_converted file bytes) r

pub captures_refuse : (o : Outside) (ports : List PortWord) (captures : List (Option (List ℕ))) (fault : Fault)
    → Refuses o (capture_steps run_names 0 0 0 ports captures) fault → Refuses o (capture_steps names 0 0 0 ports captures) (fault_of fault)
captures_refuse o ports captures fault r =
    refuses_converted o (capture_steps run_names 0 0 0 ports captures) (capture_steps names 0 0 0 ports captures) fault (captures_converted 0 0 0 ports captures) r
