-- The steps of ports, one behind the other.
use Rattle.std.proofs.Common.{◌≡◌, ◌≢◌, inl, inr, ◌∙◌, ℕ, ◌+◌, ◌≤◌, ◌==◌, true, false, arith, List, [], ◌∷◌, ◌++◌, length, Option, Some, None, Ok, refl, sym, ap, subst, append_assoc}
use Rattle.std.proofs.lemmas.Bool.{eqb-true}
use Rattle.ng_outside.specs.Contents.{Contents}
use Rattle.ng_pcap.specs.declared.capture.Capture.{Capture}
use Rattle.ng_machine.specs.Words.{Every}
use Rattle.ng_pcap.specs.Reading.{capture_of}
use Rattle.ng_pcap.specs.Writing.{IsWritable}
use Rattle.ng_args.specs.declared.port.PortWord.{PortWord}
use Rattle.ng_call.specs.ending.Outside.{Outside}
use Rattle.ng_call.specs.ending.Steps.{Step, first_fault}
use Rattle.ng_call.proofs.ending.Lists.{first_behind, refuses_in_front, refuses_behind, refuses_within}
use Rattle.ng_call.proofs.ending.Counts.{rose_since}
use Rattle.ng_call.specs.declared.ended.Fault.{Fault}
use Rattle.ng_call.specs.declared.ended.Fault.TheVariants.{NoMemory}
use Rattle.ng_call.specs.Found.{IsRead, AreRead, capture_in, captures_in, no_capture}
use Rattle.ng_call.specs.Steps.{port_steps, capture_steps, packets_in}
use Rattle.ng_call.specs.Call.{names}
use Rattle.ng_call.specs.Parts.{of_files, Stops, PortsStop, PortsPass}
use Rattle.ng_call.proofs.Files.{told_or_empty, told_read}

-- captures that may be read of the files
fill_one : List ℕ → Contents → Option (List ℕ)
fill_one [] told = None
fill_one (b ∷ name) told = Some (told_or_empty told)

pub fill : (List ℕ → Contents) → List PortWord → List (Option (List ℕ))
fill files [] = []
fill files (port ∷ ports) = fill_one port.in_file (files port.in_file) ∷ fill files ports

fill_first : (files : List ℕ → Contents) (port : PortWord) (ports : List PortWord) (captures : List (Option (List ℕ))) (name : List ℕ)
    → port.in_file ≡ name → AreRead files ports captures → AreRead files (port ∷ ports) (fill_one name (files name) ∷ captures)
unfolding fill_one
fill_first files port ports captures [] is others = (is, others)
fill_first files port ports captures (b ∷ name) is others = (
  (λ none. cc),
  subst (λ (n : List ℕ). IsRead (files n) (told_or_empty (files (b ∷ name)))) (sym is) (told_read (files (b ∷ name))),
  others,
)

pub fill_read : (files : List ℕ → Contents) (ports : List PortWord) → AreRead files ports (fill files ports)
unfolding fill
fill_read files [] = tt
fill_read files (port ∷ ports) = fill_first files port ports (fill files ports) port.in_file refl (fill_read files ports)

pub memory_stops : (o : Outside) (p bytes packets : ℕ) (ports : List PortWord) → PortsStop o p bytes packets ports NoMemory
memory_stops o p bytes packets ports = (fill o.old.files ports, fill_read o.old.files ports, inl refl)

-- a port without a file
pub none_stops : (o : Outside) (p bytes packets : ℕ) (port : PortWord) (ports : List PortWord) (fault : Fault) → port.in_file ≡ []
    → PortsStop o (p + 1) bytes packets ports fault → PortsStop o p bytes packets (port ∷ ports) fault
none_stops o p bytes packets port ports fault none (captures, read, stops) = (None ∷ captures, (none, read), stops)

-- the port's own file
pub stops_in_front : (o : Outside) (a b : List (Step Fault)) (fault : Fault) → Stops o a fault → Stops o (a ++ b) fault
stops_in_front o a b fault (inl memory) = inl memory
stops_in_front o a b fault (inr refuses) = inr (refuses_in_front o a b fault refuses)

pub own_stops : (o : Outside) (p bytes packets : ℕ) (port : PortWord) (ports : List PortWord) (fault : Fault) → port.in_file ≢ []
    → (held : List ℕ) × IsRead (o.old.files port.in_file) held × Stops o (port_steps names p bytes packets port.in_file held) fault
    → PortsStop o p bytes packets (port ∷ ports) fault
own_stops o p bytes packets port ports fault some (held, is, stops) = (
  Some held ∷ fill o.old.files ports,
  (some, is, fill_read o.old.files ports),
  stops_in_front o (port_steps names p bytes packets port.in_file held)
      (capture_steps names (p + 1) (bytes + length held) (packets + packets_in held) ports (fill o.old.files ports)) fault stops,
)

blank_is : (blank : Capture) → blank.kept ≡ [] → blank.cut ≡ None → blank ≡ no_capture
blank_is blank kept cut =
    ap (λ (k : _). let c : Capture = record { kept = k; cut = blank.cut } in c) kept
    ∙ ap (λ (k : Option ℕ). let c : Capture = record { kept = []; cut = k } in c) cut

pub none_passes : (files : List ℕ → Contents) (p bytes packets : ℕ) (port : PortWord) (ports : List PortWord) (old pushed now : List Capture)
    (blank : Capture) → blank.kept ≡ [] → blank.cut ≡ None → pushed ≡ old ++ blank ∷ [] → port.in_file ≡ []
    → PortsPass files (p + 1) bytes packets ports pushed now
    → PortsPass files p bytes packets (port ∷ ports) old now
none_passes files p bytes packets port ports old pushed now blank kept cut is none passes = record {
  found = None ∷ passes.found;
  read = (none, passes.read);
  fine = passes.fine;
  captures =
      passes.captures
      ∙ ap (λ (l : List Capture). l ++ captures_in passes.found) (is ∙ ap (λ (c : Capture). old ++ c ∷ []) (blank_is blank kept cut))
      ∙ append_assoc old (no_capture ∷ []) (captures_in passes.found);
  writable = (tt, passes.writable);
}

-- a port behind one whose file was read
module _ (old mid last : List ℕ → Contents) (before middle after : List ℕ → ℕ) (port : PortWord) (ports : List PortWord)
    (p bytes packets len more : ℕ) (held : List ℕ) (capture : Capture)
    (some : port.in_file ≢ []) (same : mid ≡ old) (counts : (other : List ℕ) → before other ≤ middle other)
    (is : IsRead (old port.in_file) held) (fine : first_fault old (port_steps names p bytes packets port.in_file held) ≡ None)
    (capture_is : capture_of held ≡ Ok capture) (many : more ≡ length capture.kept) (long : len ≡ length held) where
  whole : capture_in (Some held) ≡ capture
  whole = rw capture_is refl

  packets_are : more ≡ packets_in held
  packets_are = many ∙ ap (λ (c : Capture). length c.kept) (sym whole)

  behind : (captures : List (Option (List ℕ))) (fault : Fault) → Stops (of_files mid last middle after) (capture_steps names (p + 1) (bytes + length held) (packets + packets_in held) ports captures) fault
      → Stops (of_files old last before after) (capture_steps names p bytes packets (port ∷ ports) (Some held ∷ captures)) fault
  behind captures fault (inl memory) = inl memory
  behind captures fault (inr refuses) =
      inr (refuses_behind (of_files old last before after) (port_steps names p bytes packets port.in_file held)
      (capture_steps names (p + 1) (bytes + length held) (packets + packets_in held) ports captures) fault fine
      (refuses_within (of_files mid last middle after) (of_files old last before after) same
      (λ name rose. rose_since (before name) (middle name) (after name) (counts name) rose)
      (capture_steps names (p + 1) (bytes + length held) (packets + packets_in held) ports captures) fault refuses))

  pub later_stops : (fault : Fault) → PortsStop (of_files mid last middle after) (p + 1) (bytes + len) (packets + more) ports fault
      → PortsStop (of_files old last before after) p bytes packets (port ∷ ports) fault
  later_stops fault (captures, others, stops) = (
    Some held ∷ captures,
    (some, is, subst (λ (f : List ℕ → Contents). AreRead f ports captures) same others),
    behind captures fault
        (subst (λ (n : ℕ). Stops (of_files mid last middle after) (capture_steps names (p + 1) (bytes + length held) (packets + n) ports captures) fault) packets_are
        (subst (λ (n : ℕ). Stops (of_files mid last middle after) (capture_steps names (p + 1) (bytes + n) (packets + more) ports captures) fault) long stops)),
  )

  pub later_passes : (were pushed now : List Capture) → Every IsWritable capture.kept → pushed ≡ were ++ capture ∷ []
      → PortsPass mid (p + 1) (bytes + len) (packets + more) ports pushed now
      → PortsPass old p bytes packets (port ∷ ports) were now
  later_passes were pushed now good pushes passes = record {
    found = Some held ∷ passes.found;
    read = (some, is, subst (λ (f : List ℕ → Contents). AreRead f ports passes.found) same passes.read);
    fine =
        first_behind old (port_steps names p bytes packets port.in_file held)
        (capture_steps names (p + 1) (bytes + length held) (packets + packets_in held) ports passes.found) fine
        ∙ subst (λ (f : List ℕ → Contents). first_fault f (capture_steps names (p + 1) (bytes + length held) (packets + packets_in held) ports passes.found) ≡ None) same
        (subst (λ (n : ℕ). first_fault mid (capture_steps names (p + 1) (bytes + length held) (packets + n) ports passes.found) ≡ None) packets_are
        (subst (λ (n : ℕ). first_fault mid (capture_steps names (p + 1) (bytes + n) (packets + more) ports passes.found) ≡ None) long passes.fine));
    captures =
        passes.captures
        ∙ ap (λ (l : List Capture). l ++ captures_in passes.found) pushes
        ∙ append_assoc were (capture ∷ []) (captures_in passes.found)
        ∙ ap (λ (c : Capture). were ++ (c ∷ captures_in passes.found)) (sym whole);
    writable = (subst (λ (c : Capture). Every IsWritable c.kept) (sym whole) good, passes.writable);
  }

pub empty_is : (name file : List ℕ) → name ≡ file → true ≡ (length name == 0) → file ≡ []
empty_is [] file is none = sym is
empty_is (b ∷ name) file is none =
    absurd (let zero_long : length (b ∷ name) ≡ 0 = eqb-true (length (b ∷ name)) 0 (sym none) in omega (arith, zero_long))

pub some_is : (name file : List ℕ) → name ≡ file → false ≡ (length name == 0) → file ≢ []
some_is [] file is none = λ e. cc
some_is (b ∷ name) file is none = λ e. cc
