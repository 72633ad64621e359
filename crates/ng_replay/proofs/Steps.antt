-- The steps of a script and captures under other names of their faults.
use Rattle.std.proofs.Common.{◌≡◌, inl, inr, ℕ, ◌+◌, nat_lt, Bool, true, false, if◌then◌else◌, List, [], ◌∷◌, ◌++◌, length, option_map, Option, Some, None, refl, ap, ◌∙◌}
use Rattle.ng_outside.specs.Contents.{Contents, NotTold, NoFile, Holds}
use Rattle.ng_pcap.specs.Reading.{capture_of}
use Rattle.ngctl_script.specs.Script.{script_fault}
use Rattle.ng_args.specs.declared.port.PortWord.{PortWord}
use Rattle.ng_call.specs.ending.Outside.{Outside}
use Rattle.ng_call.specs.ending.Steps.{Step, Reads, Checks, first_fault, unless_missing, Refuses}
use Rattle.ng_call.specs.declared.ended.Fault.{Fault}
use Rattle.ng_call.specs.declared.ended.Fault.TheVariants as of_run
use Rattle.ng_call.specs.declared.ended.Which.TheVariants as of
use Rattle.ng_call.specs.Call as run
use Rattle.ng_call.specs.Found.{Found}
use Rattle.ng_call.specs.Steps.{capture_steps, fault_in, most_bytes, most_packets, most_script, over, packets_in, script_steps}
use Rattle.ng_replay.specs.Call.{names}
use Rattle.ng_replay.specs.Faults.{replay_fault}
use Rattle.ng_replay.specs.declared.ended.ReplayFault.{ReplayFault}

module _ {F G : Type 0} (f : F → G) where
  abbrev map_step : Step F → Step G
  map_step (Reads name failed) = Reads name (f failed)
  map_step (Checks found) = Checks (option_map f found)

  abbrev pub map_steps : List (Step F) → List (Step G)
  map_steps [] = []
  map_steps (step ∷ steps) = map_step step ∷ map_steps steps

  pub mapped_both : (a b : List (Step F)) → map_steps (a ++ b) ≡ map_steps a ++ map_steps b
  mapped_both [] b = refl
  mapped_both (step ∷ a) b = ap (λ (l : List (Step G)). map_step step ∷ l) (mapped_both a b)

  unless_mapped : (contents : Contents) (failed : F) (later : Option F) → unless_missing contents (f failed) (option_map f later) ≡ option_map f (unless_missing contents failed later)
  unless_mapped NotTold failed later = refl
  unless_mapped NoFile failed later = refl
  unless_mapped (Holds bytes) failed later = refl

  -- the first fault is the same one
  pub first_mapped : (files : List ℕ → Contents) (steps : List (Step F)) → first_fault files (map_steps steps) ≡ option_map f (first_fault files steps)
  first_mapped files [] = refl
  first_mapped files (Reads name failed ∷ steps) =
      ap (unless_missing (files name) (f failed)) (first_mapped files steps) ∙ unless_mapped (files name) failed (first_fault files steps)
  first_mapped files (Checks None ∷ steps) = first_mapped files steps
  first_mapped files (Checks (Some found) ∷ steps) = refl

  -- and the steps stop with it
  pub refuses_mapped : (o : Outside) (steps : List (Step F)) (fault : F) → Refuses o steps fault → Refuses o (map_steps steps) (f fault)
  refuses_mapped o [] fault r = absurd r
  refuses_mapped o (Reads name failed ∷ steps) fault (inl read) = inl (ap f read.0, read.1)
  refuses_mapped o (Reads name failed ∷ steps) fault (inr later) = inr (later.0, refuses_mapped o steps fault later.1)
  refuses_mapped o (Checks None ∷ steps) fault r = refuses_mapped o steps fault r
  refuses_mapped o (Checks (Some found) ∷ steps) fault r = ap f r

  if_mapped : (b : Bool) (fault : F) → option_map f (if b then Some fault else None) ≡ (if b then Some (f fault) else None)
  if_mapped true fault = refl
  if_mapped false fault = refl

  pub over_mapped : (most n : ℕ) (fault : F) → option_map f (over most n fault) ≡ over most n (f fault)
  over_mapped most n fault = if_mapped (nat_lt most n) fault

twice_mapped : {A F G : Type 0} (f : F → G) (make : A → F) (x : Option A) → option_map f (option_map make x) ≡ option_map (λ y. f (make y)) x
twice_mapped f make None = refl
twice_mapped f make (Some y) = refl

checks_same : {F : Type 0} (a b : Option F) (xs ys : List (Step F)) → a ≡ b → xs ≡ ys → Checks a ∷ xs ≡ Checks b ∷ ys
checks_same a b xs ys first rest = ap (λ (x : Option _). Checks x ∷ xs) first ∙ ap (λ (l : List (Step _)). Checks b ∷ l) rest

pub script_mapped : (file bytes : List ℕ) → map_steps replay_fault (script_steps run.names file bytes) ≡ script_steps names file bytes
script_mapped file bytes =
    ap (λ (l : List (Step ReplayFault)). Reads file names.unreadable_script ∷ l)
    (checks_same _ _ _ _ (over_mapped replay_fault most_script (length bytes) (of_run.TooBig of.Script))
    (checks_same _ _ [] [] (twice_mapped replay_fault run.names.wrong_script (script_fault bytes)) refl))

module _ (p bytes packets : ℕ) (file held : List ℕ) (rest : List (Step Fault)) (now : List (Step ReplayFault)) (same : map_steps replay_fault rest ≡ now) where
  one_mapped : map_steps replay_fault (Reads file (run.names.unreadable_capture p)
      ∷ Checks (over most_bytes (bytes + length held) (run.names.big_capture p))
      ∷ Checks (option_map (run.names.wrong_capture p) (fault_in (capture_of held)))
      ∷ Checks (over most_packets (packets + packets_in held) (run.names.big_capture p)) ∷ rest)
      ≡ Reads file (names.unreadable_capture p)
      ∷ Checks (over most_bytes (bytes + length held) (names.big_capture p))
      ∷ Checks (option_map (names.wrong_capture p) (fault_in (capture_of held)))
      ∷ Checks (over most_packets (packets + packets_in held) (names.big_capture p)) ∷ now
  one_mapped =
      ap (λ (l : List (Step ReplayFault)). Reads file (names.unreadable_capture p) ∷ l)
      (checks_same _ _ _ _ (over_mapped replay_fault most_bytes (bytes + length held) (run.names.big_capture p))
      (checks_same _ _ _ _ (twice_mapped replay_fault (run.names.wrong_capture p) (fault_in (capture_of held)))
      (checks_same _ _ _ _ (over_mapped replay_fault most_packets (packets + packets_in held) (run.names.big_capture p)) same)))

captures_mapped : (p bytes packets : ℕ) (ports : List PortWord) (captures : List (Option (List ℕ)))
    → map_steps replay_fault (capture_steps run.names p bytes packets ports captures) ≡ capture_steps names p bytes packets ports captures
captures_mapped p bytes packets [] captures = refl
captures_mapped p bytes packets (port ∷ ports) [] = refl
captures_mapped p bytes packets (port ∷ ports) (None ∷ captures) = captures_mapped (p + 1) bytes packets ports captures
captures_mapped p bytes packets (port ∷ ports) (Some held ∷ captures) =
    one_mapped p bytes packets port.in_file held _ _ (captures_mapped (p + 1) (bytes + length held) (packets + packets_in held) ports captures)

-- the steps of a script and captures, as a run and as a replay names their faults
pub given_mapped : (script : List ℕ) (ports : List PortWord) (found : Found)
    → map_steps replay_fault (script_steps run.names script found.script ++ capture_steps run.names 0 0 0 ports found.captures)
    ≡ script_steps names script found.script ++ capture_steps names 0 0 0 ports found.captures
given_mapped script ports found =
    mapped_both replay_fault (script_steps run.names script found.script) (capture_steps run.names 0 0 0 ports found.captures)
    ∙ ap (λ (l : List (Step ReplayFault)). l ++ map_steps replay_fault (capture_steps run.names 0 0 0 ports found.captures)) (script_mapped script found.script)
    ∙ ap (λ (l : List (Step ReplayFault)). script_steps names script found.script ++ l) (captures_mapped 0 0 0 ports found.captures)
