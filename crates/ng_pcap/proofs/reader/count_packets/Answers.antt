-- A fault of the head is the file's, and without one the packets are counted.
use Rattle.std.proofs.Common.{sym, ◌∙◌}
use Rattle.std.proofs.lemmas.Result.{err_from_is_err_and}
use Rattle.ng_pcap.proofs.Whole.{counted_fault, counted_packets}
use Rattle.ng_pcap.proofs.reader.count_packets.Goals as goal

pub returns-in_err-format : goal.returns-in_err-format
returns-in_err-format c =
    let p = err_from_is_err_and c.from_residual.result c.from_residual.ensures.1 in
    rw (p.1, p.2) (sym (counted_fault c.args.bytes.now _ (sym c.in_err-format.ensures.found)))

pub returns : goal.returns
returns c = c.count_behind_head.ensures ∙ sym (counted_packets c.args.bytes.now c.in_ok-format.format (sym c.in_ok-format.ensures.found))
