-- The packets of a capture that is read can be written.
use Rattle.std.proofs.Common.{◌≡◌, ℕ, ◌<◌, List, [], ◌∷◌, length, slice_index, Option, Some, None, Result, Ok, Err, refl}
use Rattle.std.specs.List.{AllByRecursion}
use Rattle.ng_machine.specs.Words.{Every}
use Rattle.ng_pcap.specs.declared.capture.Capture.{Capture}
use Rattle.ng_pcap.specs.declared.fault.CaptureFault.{CaptureFault}
use Rattle.ng_pcap.specs.Reading.{capture_of, count_in}
use Rattle.ng_pcap.specs.Writing.{IsWritable}
use Rattle.ng_pcap.proofs.Kept.{kept_good}
use Rattle.ng_call.specs.Found.{capture_if}
use Rattle.ng_call.specs.Steps.{fault_in}

every_from : {A : Type 0} (P : A → Type 0) (xs : List A) → AllByRecursion P xs → Every P xs
every_from P [] all = tt
every_from P (x ∷ xs) all = (all.0, every_from P xs all.1)

pub kept_writable : (bytes : List ℕ) (capture : Capture) → ((i : ℕ) → slice_index bytes i < 256) → capture_of bytes ≡ Ok capture
    → Every IsWritable capture.kept
kept_writable bytes capture fits h = every_from IsWritable capture.kept (kept_good bytes capture fits h)

-- what a count of packets says of the capture
pub counted : (read : Result Capture CaptureFault) (n : ℕ) → Ok n ≡ count_in read → (length (capture_if read).kept ≡ n) × (fault_in read ≡ None)
counted (Ok capture) n is = (cc is, refl)
counted (Err why) n is = absurd (cc is)

pub uncounted : (read : Result Capture CaptureFault) (why : CaptureFault) → Err why ≡ count_in read → fault_in read ≡ Some why
uncounted (Ok capture) why is = absurd (cc is)
uncounted (Err other) why is = cc is
