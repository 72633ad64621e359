-- A fault of the head is the file's, and without one the packets are.
use Rattle.std.proofs.Common.{◌≡◌, ℕ, List, Result, sym, ap, ◌∙◌}
use Rattle.std.proofs.lemmas.Result.{err_from_is_err_and}
use Rattle.ng_pcap.specs.declared.fault.CaptureFault.{CaptureFault}
use Rattle.ng_pcap.specs.declared.format.Format.{Format}
use Rattle.ng_pcap.specs.Reading.{head_of}
use Rattle.ng_pcap.proofs.Whole.{IsAnswer-fault, IsAnswer-packets}
use Rattle.ng_pcap.proofs.reader.read_capture.Goals as goal

head_is : {bytes items : List ℕ} {read : Result Format CaptureFault} → bytes ≡ items → read ≡ head_of bytes → head_of items ≡ read
head_is same found = sym (found ∙ ap head_of same)

pub returns-in_err-format : goal.returns-in_err-format
returns-in_err-format c =
    let p = err_from_is_err_and c.from_residual.result c.from_residual.ensures.1 in
    rw (p.1, p.2) (IsAnswer-fault c.args.bytes.items _ (head_is c.deref.ensures.value c.in_err-format.ensures.found))

pub returns : goal.returns
returns c =
    IsAnswer-packets c.args.bytes.items c.in_ok-format.format _ (head_is c.deref.ensures.value c.in_ok-format.ensures.found)
    (rw (sym c.in_ok-file.ensures) c.read_packets.ensures)
