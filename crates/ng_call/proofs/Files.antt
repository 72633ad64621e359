-- The steps of one file.
use Rattle.std.proofs.Common.{◌≡◌, ◌⊎◌, inl, inr, ◌∙◌, ℕ, ◌+◌, ◌-◌, ◌<◌, ◌≤◌, Bool, if◌then◌else◌, List, [], ◌∷◌, length, replicate, option_map, Option, Some, None, Result, Ok, Err, refl, sym, ap, arith}
use Rattle.std.specs.Prelude.{IsErrOf}
use Rattle.std.proofs.lemmas.Bool.{lt-ltb, le-ltb}
use Rattle.std.proofs.lemmas.List.{length-replicate}
use Rattle.ng_outside.specs.declared.whole.ReadStop.{ReadStop}
use Rattle.ng_outside.specs.declared.whole.ReadStop.TheVariants as stops
use Rattle.ng_outside.specs.Contents.{Contents, NotTold, NoFile, Holds, IfHolds}
use Rattle.ng_pcap.specs.declared.capture.Capture.{Capture}
use Rattle.ng_pcap.specs.declared.fault.CaptureFault.{CaptureFault}
use Rattle.ng_pcap.specs.declared.fault.CaptureFault.TheVariants as capture_faults
use Rattle.ng_pcap.specs.Reading.{capture_of}
use Rattle.ngctl_script.specs.declared.fault.ScriptFault.{ScriptFault}
use Rattle.ngctl_script.specs.declared.fault.ScriptFault.TheVariants as script_faults
use Rattle.ngctl_script.specs.Script.{script_fault, IsFaultOf}
use Rattle.ng_call.specs.ending.Outside.{Outside, FileRose}
use Rattle.ng_call.specs.ending.Steps.{Step, Checks, MayBeThere, first_fault, Refuses}
use Rattle.ng_call.proofs.ending.Lists.{read_well}
use Rattle.ng_call.specs.declared.ended.Fault.TheVariants.{NoMemory, TooBig, ReadFault}
use Rattle.ng_call.specs.declared.ended.Which.TheVariants as of
use Rattle.ng_call.specs.Found.{IsRead}
use Rattle.ng_call.specs.Steps.{over, script_steps, port_steps, fault_in, packets_in, most_script, most_bytes, most_packets}
use Rattle.ng_call.specs.Call.{names}
use Rattle.ng_call.specs.Parts.{Stops, stop_of_script, stop_of_capture}

-- bytes that may be read of a file
abbrev pub told_or_empty : Contents → List ℕ
told_or_empty NotTold = []
told_or_empty NoFile = []
told_or_empty (Holds bytes) = bytes

pub told_read : (contents : Contents) → IsRead contents (told_or_empty contents)
told_read NotTold = tt
told_read NoFile = refl
told_read (Holds bytes) = refl

pub may_be : (contents : Contents) → (contents ≡ NoFile → ⊥) → MayBeThere contents
may_be NotTold there = tt
may_be NoFile there = there refl
may_be (Holds bytes) there = tt

-- a file that was read whole, or is too big, is not missing
neither : {X : Type 0} (result : Result X ReadStop) → (IsErrOf result stops.Fault → ⊥) → (IsErrOf result stops.NoMemory → ⊥)
    → IsErrOf result stops.Fault ⊎ IsErrOf result stops.NoMemory → ⊥
neither result no_fault memory (inl is) = no_fault is
neither result no_fault memory (inr is) = memory is

pub read_is_there : {X : Type 0} (contents : Contents) (x : X)
    → (contents ≡ NoFile → IsErrOf (let r : Result X ReadStop = Ok x in r) stops.Fault ⊎ IsErrOf (let r : Result X ReadStop = Ok x in r) stops.NoMemory)
    → MayBeThere contents
read_is_there contents x missing = may_be contents (λ is. neither (Ok x) (λ e. cc e) (λ e. cc e) (missing is))

pub big_is_there : {X : Type 0} (contents : Contents) (result : Result X ReadStop) → result ≡ Err stops.TooBig
    → (contents ≡ NoFile → IsErrOf result stops.Fault ⊎ IsErrOf result stops.NoMemory) → MayBeThere contents
big_is_there contents result big missing = may_be contents (λ is. neither result (λ e. cc (e, big)) (λ e. cc (e, big)) (missing is))

pub whole_read : (contents : Contents) (bytes : List ℕ) → MayBeThere contents → IfHolds contents (λ held. bytes ≡ held)
    → IsRead contents bytes
whole_read NotTold bytes there whole = tt
whole_read NoFile bytes there whole = absurd there
whole_read (Holds held) bytes there whole = sym whole

-- more bytes than so many that may be read of a file
pub big_read : (contents : Contents) (most : ℕ) → MayBeThere contents → IfHolds contents (λ bytes. most < length bytes)
    → (bytes : List ℕ) × IsRead contents bytes × (most < length bytes)
big_read NotTold most there big = (replicate (most + 1) 0, tt, rw (length-replicate {A = ℕ} (most + 1) 0) (omega arith))
big_read NoFile most there big = absurd there
big_read (Holds bytes) most there big = (bytes, refl, big)

pub over_is : {F : Type 0} (most n : ℕ) (fault : F) → most < n → over most n fault ≡ Some fault
over_is most n fault more = ap (λ (b : Bool). if b then Some fault else None) (lt-ltb most n more)

pub over_none : {F : Type 0} (most n : ℕ) (fault : F) → n ≤ most → over most n fault ≡ None
over_none most n fault fits = ap (λ (b : Bool). if b then Some fault else None) (le-ltb most n fits)

-- Two checks behind a read

pub checks_fine : {F : Type 0} (files : List ℕ → Contents) (a b : Option F) (rest : List (Step F)) → a ≡ None → b ≡ None
    → first_fault files rest ≡ None → first_fault files (Checks a ∷ Checks b ∷ rest) ≡ None
checks_fine files a b rest first second later = rw (first, second) later

pub check_first : {F : Type 0} (o : Outside) (a : Option F) (fault : F) (rest : List (Step F)) → a ≡ Some fault → Refuses o (Checks a ∷ rest) fault
check_first o a fault rest is = rw is refl

pub check_later : {F : Type 0} (o : Outside) (a : Option F) (fault : F) (rest : List (Step F)) → a ≡ None → Refuses o rest fault
    → Refuses o (Checks a ∷ rest) fault
check_later o a fault rest none later = rw none later

mapped_none : {A B : Type 0} (f : A → B) (x : Option A) → x ≡ None → option_map f x ≡ None
mapped_none f x is = ap (option_map f) is

mapped_some : {A B : Type 0} (f : A → B) (x : Option A) (a : A) → x ≡ Some a → option_map f x ≡ Some (f a)
mapped_some f x a is = ap (option_map f) is

module _ (o : Outside) (name : List ℕ) where
  -- A script

  pub script_unread : FileRose o name
      → (bytes : List ℕ) × IsRead (o.old.files name) bytes × Stops o (script_steps names name bytes) (ReadFault of.Script)
  script_unread rose = (told_or_empty (o.old.files name), told_read (o.old.files name), inr (inl (refl, rose)))

  pub script_big : MayBeThere (o.old.files name) → IfHolds (o.old.files name) (λ bytes. most_script < length bytes)
      → (bytes : List ℕ) × IsRead (o.old.files name) bytes × Stops o (script_steps names name bytes) (TooBig of.Script)
  script_big there big =
      let found = big_read (o.old.files name) most_script there big in
      (found.0, found.1, inr (inr (there, check_first o _ _ _ (over_is most_script (length found.0) (TooBig of.Script) found.2))))

  pub script_memory : (bytes : List ℕ) × IsRead (o.old.files name) bytes × Stops o (script_steps names name bytes) NoMemory
  script_memory = (told_or_empty (o.old.files name), told_read (o.old.files name), inl refl)

  pub script_fine : (bytes : List ℕ) → MayBeThere (o.old.files name) → length bytes ≤ most_script → script_fault bytes ≡ None
      → first_fault o.old.files (script_steps names name bytes) ≡ None
  script_fine bytes there fits fine =
      read_well (o.old.files name) (ReadFault of.Script) _ there
      ∙ checks_fine o.old.files _ _ [] (over_none most_script (length bytes) (TooBig of.Script) fits)
      (mapped_none names.wrong_script (script_fault bytes) fine) refl

  script_found : (bytes : List ℕ) (fault : ScriptFault) → MayBeThere (o.old.files name) → length bytes ≤ most_script
      → script_fault bytes ≡ Some fault → Stops o (script_steps names name bytes) (names.wrong_script fault)
  script_found bytes fault there fits is =
      inr (inr (
        there,
        check_later o _ _ _ (over_none most_script (length bytes) (TooBig of.Script) fits)
            (check_first o _ _ _ (mapped_some names.wrong_script (script_fault bytes) fault is)),
      ))

  pub script_wrong : (bytes : List ℕ) (fault : ScriptFault) → MayBeThere (o.old.files name) → length bytes ≤ most_script
      → IsFaultOf bytes fault → Stops o (script_steps names name bytes) (stop_of_script fault)
  script_wrong bytes script_faults.NoMemory there fits is = inl refl
  script_wrong bytes (script_faults.LineTooLong line) there fits is = script_found bytes (script_faults.LineTooLong line) there fits is
  script_wrong bytes (script_faults.BadMark line) there fits is = script_found bytes (script_faults.BadMark line) there fits is
  script_wrong bytes (script_faults.TooMany line) there fits is = script_found bytes (script_faults.TooMany line) there fits is

  -- A capture

  module _ (port bytes packets : ℕ) where
    pub port_unread : FileRose o name
        → (held : List ℕ) × IsRead (o.old.files name) held
        × Stops o (port_steps names port bytes packets name held) (ReadFault (of.Capture port))
    port_unread rose = (told_or_empty (o.old.files name), told_read (o.old.files name), inr (inl (refl, rose)))

    pub port_big : MayBeThere (o.old.files name) → bytes ≤ most_bytes → IfHolds (o.old.files name) (λ held. most_bytes - bytes < length held)
        → (held : List ℕ) × IsRead (o.old.files name) held
        × Stops o (port_steps names port bytes packets name held) (TooBig (of.Capture port))
    port_big there within big =
        let found = big_read (o.old.files name) (most_bytes - bytes) there big in
        let more : most_bytes < bytes + length found.0 = omega (arith, found.2, within) in
        (found.0, found.1, inr (inr (there, check_first o _ _ _ (over_is most_bytes (bytes + length found.0) (TooBig (of.Capture port)) more))))

    pub port_memory : (held : List ℕ) × IsRead (o.old.files name) held × Stops o (port_steps names port bytes packets name held) NoMemory
    port_memory = (told_or_empty (o.old.files name), told_read (o.old.files name), inl refl)

    module _ (held : List ℕ) (there : MayBeThere (o.old.files name)) (fits : bytes + length held ≤ most_bytes) where
      within : over most_bytes (bytes + length held) (names.big_capture port) ≡ None
      within = over_none most_bytes (bytes + length held) (names.big_capture port) fits

      capture_found : (why : CaptureFault) → fault_in (capture_of held) ≡ Some why
          → Stops o (port_steps names port bytes packets name held) (names.wrong_capture port why)
      capture_found why is =
          inr (inr (there, check_later o _ _ _ within (check_first o _ _ _ (mapped_some (names.wrong_capture port) (fault_in (capture_of held)) why is))))

      pub capture_wrong : (why : CaptureFault) → (why ≡ capture_faults.NoMemory) ⊎ (fault_in (capture_of held) ≡ Some why)
          → Stops o (port_steps names port bytes packets name held) (stop_of_capture port why)
      capture_wrong why (inl memory) = inl (ap (stop_of_capture port) memory)
      capture_wrong capture_faults.NoMemory (inr is) = inl refl
      capture_wrong (capture_faults.ShortHeader n) (inr is) = capture_found (capture_faults.ShortHeader n) is
      capture_wrong capture_faults.NoMagic (inr is) = capture_found capture_faults.NoMagic is
      capture_wrong capture_faults.BadVersion (inr is) = capture_found capture_faults.BadVersion is
      capture_wrong (capture_faults.BadLink n) (inr is) = capture_found (capture_faults.BadLink n) is
      capture_wrong (capture_faults.TooLong place n) (inr is) = capture_found (capture_faults.TooLong place n) is

      module _ (capture : Capture) (is : capture_of held ≡ Ok capture) where
        no_fault : fault_in (capture_of held) ≡ None
        no_fault = ap fault_in is

        many : packets_in held ≡ length capture.kept
        many = rw is refl

        pub capture_many : most_packets < packets + length capture.kept
            → Stops o (port_steps names port bytes packets name held) (TooBig (of.Capture port))
        capture_many more =
            inr (inr (
              there,
              check_later o _ _ _ within
                  (check_later o _ _ _ (mapped_none (names.wrong_capture port) (fault_in (capture_of held)) no_fault)
                  (check_first o _ _ _ (over_is most_packets (packets + packets_in held) (TooBig (of.Capture port)) (rw many more)))),
            ))

        pub capture_fine : packets + length capture.kept ≤ most_packets
            → first_fault o.old.files (port_steps names port bytes packets name held) ≡ None
        capture_fine few =
            read_well (o.old.files name) (names.unreadable_capture port) _ there
            ∙ checks_fine o.old.files _ _ _ within (mapped_none (names.wrong_capture port) (fault_in (capture_of held)) no_fault)
            (rw (over_none most_packets (packets + packets_in held) (names.big_capture port) (rw many few)) refl)
