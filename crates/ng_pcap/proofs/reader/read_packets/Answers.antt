-- Each turn of the loop takes one packet off what is left.
use Rattle.std.proofs.Common.{◌≡◌, ℕ, List, Result, ◌<◌, ◌≤◌, ◌+◌, ◌-◌, length, take, drop, sym, ap, ◌∙◌, arith}
use Rattle.std.proofs.lemmas.Bool.Decides.{nat_tests}
use Rattle.std.proofs.lemmas.Result.{err_from_is_err_and}
use Rattle.ng_pcap.specs.declared.capture.Capture.{Capture}
use Rattle.ng_pcap.specs.declared.fault.CaptureFault.{CaptureFault}
use Rattle.ng_pcap.specs.declared.format.Format.{Format}
use Rattle.ng_pcap.specs.Reading.{packets}
use Rattle.ng_pcap.proofs.Packets.{IsUnlessNoMemory-same, begins, goes_on, is_cut, is_fault, is_whole, part_after_head}
use Rattle.ng_pcap.proofs.reader.read_packets.Goals as goal

-- what the packets of a whole file are read as
abbrev all_packets : Format → List ℕ → Result Capture CaptureFault
all_packets format bytes = packets (length bytes) format 24 (drop 24 bytes)

pub loop-bytes-init : goal.loop-bytes-init
loop-bytes-init c =
    let whole : 24 ≤ length c.bytes-bytes.result.now = omega (arith, c.requires, ap length c.bytes-bytes.ensures) in
    rw c.new-kept.ensures (begins c.args.format c.bytes-bytes.result.now _ whole c.split_at.ensures.back)

pub returns-in_err-head : goal.returns-in_err-head
returns-in_err-head c =
    let same : c.bytes-bytes.result.now ≡ c.args.file.now = c.bytes-bytes.ensures in
    let p = err_from_is_err_and c.from_residual.result c.from_residual.ensures.1 in
    let some : 0 < length c.loop-bytes.left.now = grind (arith, nat_tests) in
    rw (p.1, p.2)
    (IsUnlessNoMemory-same _ _ (ap (all_packets c.args.format) (sym same)
    ∙ is_fault c.args.format c.bytes-bytes.result.now c.loop-bytes.left.now c.loop-bytes.kept _ some
    (sym c.in_err-head.ensures.found) c.loop-bytes.invariant))

pub returns-in_default : goal.returns-in_default
returns-in_default c =
    let same : c.bytes-bytes.result.now ≡ c.args.file.now = c.bytes-bytes.ensures in
    let some : 0 < length c.loop-bytes.left.now = grind (arith, nat_tests) in
    ap (all_packets c.args.format) (sym same)
    ∙ is_cut c.args.format c.bytes-bytes.result.now c.loop-bytes.left.now c.loop-bytes.kept some
    (rw c.in_default.is at (sym c.in_ok-head.ensures.found)) c.loop-bytes.invariant

pub loop-bytes-preserved : goal.loop-bytes-preserved
loop-bytes-preserved c =
    let some : 0 < length c.loop-bytes.left.now = grind (arith, nat_tests) in
    let bytes = c.bytes-bytes.result.now in
    let left = c.loop-bytes.left.now in
    let head = c.in-Some.head in
    let found = rw c.in-Some.is at c.in_ok-head.ensures.found in
    let packet = c.in_ok-packet.ensures
    ∙ ap (λ (l : List ℕ). take head.len (drop (length bytes - length left + 16) l)) (sym c.bytes-bytes.ensures)
    ∙ part_after_head c.args.format bytes left c.loop-bytes.kept head.len c.loop-bytes.invariant in
    let behind = c.split_at-in-loop-bytes-2.ensures.back ∙ ap (drop head.len) c.split_at-in-loop-bytes.ensures.back in
    rw c.in_ok-push.ensures.ok
    (goes_on c.args.format bytes left _ _ c.loop-bytes.kept head some
    (sym found) (omega arith) packet behind c.loop-bytes.invariant)

pub returns : goal.returns
returns c =
    let same : c.bytes-bytes.result.now ≡ c.args.file.now = c.bytes-bytes.ensures in
    ap (all_packets c.args.format) (sym same)
    ∙ is_whole c.args.format c.bytes-bytes.result.now c.loop-bytes.left.now c.loop-bytes.kept (grind (arith, nat_tests)) c.loop-bytes.invariant
